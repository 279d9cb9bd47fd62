-- A body with the token merged into it, member by member.
use Rattle.std.proofs.Common.{◌≡◌, ◌≢◌, ◌≤◌, ℕ, Bool, true, false, not, bytes_eq, filter, cond, List, [], ◌∷◌, Option, Some, None, option_and_then, Ok, refl, sym, ap, ◌∙◌, true≢false}
use Rattle.std.specs.Cmp.Lexicographic.{bytes_decides}
use Rattle.sc_json.specs.declared.tree.Json.{Json}
use Rattle.sc_json.specs.declared.tree.Json.TheVariants as trees
use Rattle.sc_json.specs.declared.tree.Json.TheOpen as layer
use Rattle.sc_json.specs.declared.tree.Json.TheOpen.{Json-F, Member-F}
use Rattle.sc_json.specs.declared.tree.Json.TheViews.{out-Json, out-roll-Json, out-roll-Member}
use Rattle.sc_json.specs.declared.tree.Member.{Member, out-Member, roll-Member}
use Rattle.sc_json.specs.Member.{members_of, member_value, value_in}
use Rattle.sc_json.specs.Views.{is_null, null_in, text_of, text_in, object_of, object_in}
use Rattle.sc_sort.specs.Keys.{Keys}
use Rattle.sc_token.specs.Token.{token_of}
use Rattle.sc_token.specs.Fits.{FitsSort}
use Rattle.sc_expr.specs.Query.{Asked}
use Rattle.sc_query.specs.Words.{token_name}
use Rattle.sc_query.specs.Given.{in_tree, of_body, Parameters, unless_null}
use Rattle.sc_query.specs.Reading.{goes_on}
use Rattle.sc_query.specs.Query.{QueryOf, QueryOfBody, object_judged}
use Rattle.sc_chain.specs.Chain.{behind}
use Rattle.sc_chain.specs.Next.{IsNextBody}
use Rattle.sc_chain.proofs.Asking.{HasOtherToken, query_limit, reads}
use Rattle.sc_chain.proofs.Queries.{IsOneReading, is_one, then_one}

out_text : (text : List ℕ) → out-Json (trees.Text text) ≡ layer.Text text
out_text text = ap out-Json (sym (trees.rolls-Text text)) ∙ out-roll-Json (layer.Text text)

there_is : (text : List ℕ) → unless_null (trees.Text text) ≡ Some (in_tree (trees.Text text))
unfolding is_null
there_is text = ap (λ l. cond (null_in l) None (Some (in_tree (trees.Text text)))) (out_text text)

text_is : (text : List ℕ) → text_of (trees.Text text) ≡ Some text
unfolding text_of
text_is text = ap text_in (out_text text)

body_token : (body next : Json) (key : Keys) → IsNextBody body key next → HasOtherToken (of_body body) (of_body next) key
body_token body next key h = record {
  others = λ name o. ap (option_and_then unless_null) (h.others name (λ e. true≢false (sym ((bytes_decides token_name name).1 (sym e)) ∙ o)));
  token = in_tree (trees.Text (token_of key));
  there = ap (option_and_then unless_null) h.token ∙ there_is (token_of key);
  text = text_is (token_of key);
}

object_same : (body next : Json) (key : Keys) → IsNextBody body key next → Ok tt ≡ object_judged (object_of next)
object_same body next key h = sym (ap object_judged h.is_object)

pub body_reads : (body next : Json) (key : Keys) (asked : Asked) → IsNextBody body key next → QueryOfBody body (Ok asked) → FitsSort asked.sort key → QueryOfBody next (Ok (behind asked key))
body_reads body next key asked h (goes_on _ _ o q) f =
    goes_on tt (Ok (behind asked key)) (object_same body next key h) (reads None (of_body body) (of_body next) key (body_token body next key h) asked q f)

-- a body is one query at most, and then has no fault
pub body_one : (body : Json) → ((given : Parameters) → IsOneReading (QueryOf None given)) → IsOneReading (QueryOfBody body)
body_one body one = then_one _ _ (is_one (object_judged (object_of body))) (λ _. one (of_body body))

pub body_limit : (body : Json) (asked : Asked) → QueryOfBody body (Ok asked) → 1 ≤ asked.limit
body_limit body asked (goes_on _ _ o q) = query_limit None (of_body body) asked q

-- ---- a next body is there

abbrev is_kept : Member → Bool
is_kept m = not (bytes_eq (out-Member m).name token_name)

abbrev token_member : Keys → Member
token_member place = roll-Member (record { name = token_name; value = trees.Text (token_of place) })

member_out : (place : Keys) → out-Member (token_member place) ≡ record { name = token_name; value = trees.Text (token_of place) }
member_out place = out-roll-Member (record { name = token_name; value = trees.Text (token_of place) })

is_other : (name : List ℕ) → name ≢ token_name → bytes_eq token_name name ≡ false
is_other name ne = go (bytes_eq token_name name) refl
  where
    go : (b : Bool) → bytes_eq token_name name ≡ b → b ≡ false
    go true e = absurd (ne (sym ((bytes_decides token_name name).0 e)))
    go false e = refl

value_kept : (name : List ℕ) → name ≢ token_name → (ms : List Member) → value_in (filter is_kept ms) name ≡ value_in ms name
value_kept name ne [] = refl
value_kept name ne (m ∷ ms) = go (bytes_eq (out-Member m).name token_name) refl (value_kept name ne ms)
  where
    go : (b : Bool) → bytes_eq (out-Member m).name token_name ≡ b → value_in (filter is_kept ms) name ≡ value_in ms name → value_in (filter is_kept (m ∷ ms)) name ≡ value_in (m ∷ ms) name
    go true e more = let f : bytes_eq (out-Member m).name name ≡ false = ap (λ n. bytes_eq n name) ((bytes_decides (out-Member m).name token_name).0 e) ∙ is_other name ne in rw (e, f) more
    go false e more = rw e (ap (λ t. cond (bytes_eq (out-Member m).name name) (Some (out-Member m).value) t) more)

members_are : (level : Json-F Json Member) (ms : List Member) → object_in level ≡ Some ms → members_of level ≡ ms
members_are layer.Null ms e = cc
members_are (layer.Truth b) ms e = cc
members_are (layer.Number n) ms e = cc
members_are (layer.Text t) ms e = cc
members_are (layer.List elements) ms e = cc
members_are (layer.Object members) ms e = cc

in_object : (body : Json) (ms : List Member) → object_of body ≡ Some ms → members_of (out-Json body) ≡ ms
unfolding object_of
in_object body ms e = members_are (out-Json body) ms e

out_object : (ms : List Member) → out-Json (trees.Object ms) ≡ layer.Object ms
out_object ms = ap out-Json (sym (trees.rolls-Object ms)) ∙ out-roll-Json (layer.Object ms)

object_is : (ms : List Member) → object_of (trees.Object ms) ≡ Some ms
unfolding object_of
object_is ms = ap object_in (out_object ms)

pub next_body_is : (body : Json) (place : Keys) (ms : List Member) → object_of body ≡ Some ms → (next : Json) × IsNextBody body place next
next_body_is body place ms e = (
  trees.Object (token_member place ∷ filter is_kept ms),
  record {
    members = token_member place ∷ filter is_kept ms;
    is_object = object_is (token_member place ∷ filter is_kept ms);
    token = looked token_name ∙ first token_name ∙ ap (chosen token_name) ((bytes_decides token_name token_name).1 refl);
    others = λ name ne.
        looked name ∙ first name ∙ ap (chosen name) (is_other name ne) ∙ value_kept name ne ms ∙ sym (ap (λ l. value_in l name) (in_object body ms e));
  },
)
  where
    looked : (name : List ℕ) → member_value (trees.Object (token_member place ∷ filter is_kept ms)) name ≡ value_in (token_member place ∷ filter is_kept ms) name
    looked name = ap (λ l. value_in (members_of l) name) (out_object (token_member place ∷ filter is_kept ms))

    chosen : List ℕ → Bool → Option Json
    chosen name b = cond b (Some (trees.Text (token_of place))) (value_in (filter is_kept ms) name)

    first : (name : List ℕ) → value_in (token_member place ∷ filter is_kept ms) name ≡ chosen name (bytes_eq token_name name)
    first name = ap (λ (m : Member-F Json Member). cond (bytes_eq m.name name) (Some m.value) (value_in (filter is_kept ms) name)) (member_out place)
