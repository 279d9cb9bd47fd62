-- The form of a next page's address is read as its pairs.
use Rattle.std.proofs.Common.{◌≡◌, ℕ, List, [], ◌∷◌, filter, IsUtf8, arith}
use Rattle.std.specs.List.{All}
use Rattle.std.proofs.lemmas.List.Elements.{All-append, All-cons, All-filter, All-from_get_or, All-from_recursion, All-map, All-nil, All-weaker}
use Rattle.std.proofs.lemmas.Str.{IsUtf8-from_is_utf8}
use Rattle.percent_encoding.proofs.PercentLemmas.{IsByte}
use Rattle.form_urlencoded.specs.Form.{extend_pairs, parse}
use Rattle.form_urlencoded.proofs.FormLemmas.{IsBytePair, round_trip}
use Rattle.hex.specs.Hex.{encode_lower}
use Rattle.sc_sort.specs.Keys.{Keys}
use Rattle.sc_token.specs.Token.{list_text, token_of}
use Rattle.sc_token.proofs.Bytes.{digits_utf8, utf8_bytes}
use Rattle.sc_expr.specs.declared.select.Pair.{Pair}
use Rattle.sc_page.specs.Linked.{is_other_pair, next_pairs, other_pairs, token_name}
use Rattle.sc_chain.specs.Next.{IsInUtf8}

all_bytes : (text : List ℕ) → IsUtf8 text → All IsByte text
all_bytes text u = All-from_get_or IsByte text 0 (λ i lt. utf8_bytes text u i)

name_bytes : All IsByte token_name
unfolding token_name
name_bytes = All-from_recursion IsByte token_name (omega arith, (omega arith, (omega arith, (omega arith, (omega arith, tt)))))

token_bytes : (place : Keys) → All IsByte (token_of place)
unfolding token_of
token_bytes place = all_bytes (encode_lower (list_text place)) (IsUtf8-from_is_utf8 (encode_lower (list_text place)) (digits_utf8 (list_text place)))

abbrev both : Pair → List ℕ × List ℕ
both pair = (pair.name, pair.value)

pub address_read : (pairs : List Pair) (place : Keys) → All IsInUtf8 pairs → parse (extend_pairs [] (next_pairs pairs (token_of place))) ≡ next_pairs pairs (token_of place)
address_read pairs place utf8 =
    round_trip (next_pairs pairs (token_of place))
    (All-append IsBytePair (other_pairs pairs) ((token_name, token_of place) ∷ [])
    (All-map IsBytePair both (filter is_other_pair pairs)
    (All-filter is_other_pair (λ pair. IsBytePair (both pair)) pairs (All-weaker IsInUtf8 (λ pair. IsBytePair (both pair)) (λ pair u. (all_bytes pair.name u.name, all_bytes pair.value u.value)) pairs utf8)))
    (All-cons IsBytePair (token_name, token_of place) [] (name_bytes, token_bytes place) (All-nil IsBytePair)))
