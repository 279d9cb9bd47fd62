-- How long replies are.
use Rattle.std.proofs.Common.{◌≡◌, ℕ, ◌+◌, ◌<◌, ◌≤◌, ◌^◌, Bool, true, false, List, [], ◌∷◌, ◌++◌, length, refl, ap, ◌∙◌, arith, append_assoc, length-append, Some, None}
use Rattle.std.specs.Prelude.{if◌then◌else◌, decimal, codes, ◌==◌, IsTrue}
use Rattle.std.specs.declared.option.Option.{Option}
use Rattle.std.proofs.lemmas.Bool.Decides.{nat_tests}
use Rattle.std.proofs.lemmas.Fmt.{length-decimal-le}
use Rattle.sc_http.specs.declared.reply.Reply.{Reply}
use Rattle.sc_http.specs.Reply.{is_status, phrase, version_text, type_text, length_text, revision_text, allow_text, close_text, end_text, allow_line, close_line, status_line, reply_bytes, list_length, size_of}

pub reply_length : (r : Reply) → length (reply_bytes r) ≡ length (status_line r.status) + (length (type_text r.geo) + (length (length_text ++ decimal (length r.body)) + (length (revision_text ++ decimal r.revision) + (length (allow_line r.allow) + (length (close_line r.close) + (length end_text + length r.body))))))
reply_length r = simp length-append (omega arith)

grow : (t0 p t t' x y : List ℕ) → y ≡ x → t' ≡ t ++ y → t ≡ t0 ++ p → t' ≡ t0 ++ (p ++ x)
grow t0 p t t' x y k e f = e ∙ ap (λ z. t ++ z) k ∙ ap (λ z. z ++ x) f ∙ append_assoc t0 p x

-- the parts that are added one after the other are the reply
pub joined : (r : Reply) (t0 t1 t2 t3 t4 t5 t6 t7 t8 kind end body : List ℕ) (n : ℕ) → kind ≡ type_text r.geo → n ≡ length r.body → end ≡ end_text → body ≡ r.body
    → t1 ≡ t0 ++ status_line r.status → t2 ≡ t1 ++ kind → t3 ≡ t2 ++ length_text ++ decimal n → t4 ≡ t3 ++ revision_text ++ decimal r.revision
    → t5 ≡ t4 ++ allow_line r.allow → t6 ≡ t5 ++ close_line r.close → t7 ≡ t6 ++ end → t8 ≡ t7 ++ body → t8 ≡ t0 ++ reply_bytes r
joined r t0 t1 t2 t3 t4 t5 t6 t7 t8 kind end body n k m e b e1 e2 e3 e4 e5 e6 e7 e8 =
    let s2 = grow t0 (status_line r.status) t1 t2 (type_text r.geo) kind k e2 e1 in
    let s3 = grow t0 _ (t2 ++ length_text) t3 (decimal (length r.body)) (decimal n) (ap decimal m) e3 (grow t0 _ t2 _ length_text length_text refl refl s2) in
    let s4 = grow t0 _ (t3 ++ revision_text) t4 (decimal r.revision) _ refl e4 (grow t0 _ t3 _ revision_text revision_text refl refl s3) in
    let s6 = grow t0 _ t5 t6 (close_line r.close) _ refl e6 (grow t0 _ t4 t5 (allow_line r.allow) _ refl e5 s4) in
    grow t0 _ t7 t8 r.body body b e8 (grow t0 _ t6 t7 end_text end e e7 s6)

if_short : (b : Bool) (k : ℕ) (x y : List ℕ) → length x ≤ k → length y ≤ k → length (if b then x else y) ≤ k
if_short true k x y p q = p
if_short false k x y p q = q

phrase_short : (s : ℕ) → length (phrase s) ≤ 31
unfolding phrase
phrase_short s =
    if_short (s == 200) 31 _ _ (omega arith) (if_short (s == 201) 31 _ _ (omega arith) (if_short (s == 400) 31 _ _ (omega arith) (if_short (s == 404) 31 _ _ (omega arith) (
    if_short (s == 405) 31 _ _ (omega arith) (if_short (s == 409) 31 _ _ (omega arith) (if_short (s == 411) 31 _ _ (omega arith) (if_short (s == 413) 31 _ _ (omega arith) (
    if_short (s == 431) 31 _ _ (omega arith) (if_short (s == 500) 31 _ _ (omega arith) (if_short (s == 501) 31 _ _ (omega arith) (omega arith)))))))))))

status_small : (s : ℕ) → IsTrue (is_status s) → s < 2 ^ 16
status_small s h = grind (arith, nat_tests)

status_short : (s : ℕ) → s < 2 ^ 16 → length (status_line s) ≤ 61
unfolding version_text
status_short s small =
    let digits : length (decimal s) ≤ 20 = length-decimal-le 20 s (omega arith) (omega arith) (omega arith) in
    omega (arith, phrase_short s, digits, length-append version_text (decimal s ++ 32 ∷ phrase s), length-append (decimal s) (32 ∷ phrase s))

number_short : (text : List ℕ) (n : ℕ) → n < 2 ^ 64 → length (text ++ decimal n) ≤ length text + 20
number_short text n small =
    let digits : length (decimal n) ≤ 20 = length-decimal-le 20 n (omega arith) (omega arith) small in
    omega (arith, digits, length-append text (decimal n))

type_short : (geo : Bool) → length (type_text geo) ≤ 40
unfolding type_text
type_short geo = if_short geo 40 _ _ (omega arith) (omega arith)

allow_short : (allow : Option (List ℕ)) → length (allow_line allow) ≤ 9 + list_length allow
unfolding allow_text
allow_short None = omega arith
allow_short (Some list) = omega (arith, length-append allow_text list)

close_short : (close : Bool) → length (close_line close) ≤ 21
unfolding close_text
close_short close = if_short close 21 _ _ (omega arith) (omega arith)

length_short : length length_text ≤ 18
unfolding length_text
length_short = omega arith

revision_short : length revision_text ≤ 22
unfolding revision_text
revision_short = omega arith

end_short : length end_text ≤ 4
unfolding end_text
end_short = omega arith

-- the head of a reply has fewer than 512 bytes, but for the list of methods
pub reply_short : (r : Reply) → IsTrue (is_status r.status) → length r.body < 2 ^ 64 → r.revision < 2 ^ 64 → length (reply_bytes r) ≤ 512 + size_of r
reply_short r a b c =
    omega (
      arith,
      reply_length r,
      status_short r.status (status_small r.status a),
      type_short r.geo,
      number_short length_text (length r.body) b,
      number_short revision_text r.revision c,
      allow_short r.allow,
      close_short r.close,
      length_short,
      revision_short,
      end_short,
    )
