-- Whole requests: there is one at most at a front, and more bytes keep it.
use Rattle.std.proofs.Common.{◌≡◌, ◌≢◌, ℕ, ◌<◌, Bool, List, [], ◌∷◌, ◌++◌, length, drop, get_or, refl, sym, ap, ◌∙◌, subst, arith, append_assoc, length-append, inl, inr, Result, Ok, Err}
use Rattle.httparse.specs.Grammar.{RequestHead, NeverHasRequest, print_request}
use Rattle.httparse.proofs.GrammarLemmas.{request_unique, ReadsRequest-append}
use Rattle.sc_http.specs.declared.fault.HeadFault.{HeadFault}
use Rattle.sc_http.specs.declared.fault.HeadFault.TheVariants.{Malformed, TooLarge}
use Rattle.sc_http.specs.declared.fault.HttpEnd.{HttpEnd}
use Rattle.sc_http.specs.declared.fault.HttpEnd.TheVariants.{Cut, BadHead, BadLength, ReadFault, Spent, OutOfMemory}
use Rattle.sc_http.specs.declared.fault.LengthFault.{LengthFault}
use Rattle.sc_http.specs.declared.request.Request.{Request}
use Rattle.sc_http.specs.Requests.{HasHead, HasNoHead, HasRequest, HasNoWhole, BeginsWithRequest, AreRequests, Requests, length_in, request_of}
use Rattle.sc_http.specs.Intake.{IsUnfinished, IsCutOff, IsBadHead, IsEnd, HasShortBody}
use Rattle.sc_http.proofs.Bodies.{head_stays}
use Rattle.sc_http.proofs.Feeds.{no_head_beyond}
use Rattle.sc_http.proofs.Fronts.{room_parts}

same_front : (a b x y : List ℕ) → length a ≡ length b → a ++ x ≡ b ++ y → (a ≡ b) × (x ≡ y)
same_front [] [] x y l e = (refl, e)
same_front [] (k ∷ b) x y l e = absurd (omega (arith, l))
same_front (j ∷ a) [] x y l e = absurd (omega (arith, l))
same_front (j ∷ a) (k ∷ b) x y l e =
    let s = same_front a b x y (omega (arith, l)) (ap (drop 1) e) in
    (ap (λ t. t ∷ a) (ap (λ z. get_or z 0 0) e) ∙ ap (λ t. k ∷ t) s.0, s.1)

ok_same : (m n : ℕ) (r : Result ℕ LengthFault) → r ≡ Ok m → r ≡ Ok n → m ≡ n
ok_same m n r d e = cc

ok_no_err : (m : ℕ) (f : LengthFault) (r : Result ℕ LengthFault) → r ≡ Ok m → r ≡ Err f → ⊥
ok_no_err m f r d e = cc

err_same : (f g : LengthFault) (r : Result ℕ LengthFault) → r ≡ Err f → r ≡ Err g → f ≡ g
err_same f g r d e = cc

-- one head, one rest, and so one length
heads_same : (bytes : List ℕ) (h k : RequestHead) (r s : List ℕ) → HasHead bytes h r → HasHead bytes k s → (h ≡ k) × (r ≡ s)
heads_same bytes h k r s x y = request_unique bytes h k r s x.reads y.reads

pub one_first : (bytes r s : List ℕ) (q p : Request) → BeginsWithRequest bytes q r → BeginsWithRequest bytes p s → (q ≡ p) × (r ≡ s)
one_first bytes r s q p x y =
    let u = heads_same bytes x.0 y.0 (x.1 ++ r) (y.1 ++ s) x.2.head y.2.head in
    let size = ok_same (length x.1) (length y.1) (length_in y.0) (ap length_in (sym u.0) ∙ x.2.size) y.2.size in
    let f = same_front x.1 y.1 r s size u.1 in
    (x.3 ∙ ap (λ h. request_of h x.1) u.0 ∙ ap (request_of y.0) f.0 ∙ sym y.3, f.1)

begins_not : (bytes r more : List ℕ) (q : Request) → bytes ≡ r → HasNoWhole r → BeginsWithRequest bytes q more → ⊥
begins_not bytes r more q e none x = subst HasNoWhole (sym e) none x.0 x.1 more x.2

pub one_list : (bytes r s : List ℕ) (qs ps : List Request) → Requests bytes qs r → Requests bytes ps s → (qs ≡ ps) × (r ≡ s)
one_list bytes r s [] [] x y = (refl, sym x.0 ∙ y.0)
one_list bytes r s [] (p ∷ ps) x y = absurd (begins_not bytes r y.0.0 p x.0 x.1 y.0.1)
one_list bytes r s (q ∷ qs) [] x y = absurd (begins_not bytes s x.0.0 q y.0 y.1 x.0.1)
one_list bytes r s (q ∷ qs) (p ∷ ps) x y =
    let first = one_first bytes x.0.0 y.0.0 q p x.0.1 y.0.1 in
    let others = one_list x.0.0 r s qs ps (x.0.2, x.1) (subst (λ z. AreRequests z ps s) (sym first.1) y.0.2, y.1) in
    (ap (λ z. z ∷ qs) first.0 ∙ ap (λ z. p ∷ z) others.0, others.1)

request_stays : (bytes more : List ℕ) (h : RequestHead) (content rest : List ℕ) → HasRequest bytes h content rest → HasRequest (bytes ++ more) h content (rest ++ more)
request_stays bytes more h content rest x = record {
  head = subst (λ z. HasHead (bytes ++ more) h z) (append_assoc content rest more) (head_stays bytes h (content ++ rest) more x.head);
  size = x.size;
}

begins_stays : (bytes more rest : List ℕ) (q : Request) → BeginsWithRequest bytes q rest → BeginsWithRequest (bytes ++ more) q (rest ++ more)
begins_stays bytes more rest q x = (x.0, x.1, request_stays bytes more x.0 x.1 rest x.2, x.3)

pub go_on : (bytes rest taken next : List ℕ) (qs : List Request) (q : Request) → AreRequests bytes qs rest → BeginsWithRequest (rest ++ taken) q next → AreRequests (bytes ++ taken) (qs ++ q ∷ []) next
go_on bytes rest taken next [] q x y = (next, subst (λ z. BeginsWithRequest (z ++ taken) q next) (sym x) y, refl)
go_on bytes rest taken next (p ∷ qs) q x y = (x.0 ++ taken, begins_stays bytes taken x.0 p x.1, go_on x.0 rest taken next qs q x.2 y)

pub are_stay : (bytes rest more : List ℕ) (qs : List Request) → AreRequests bytes qs rest → AreRequests (bytes ++ more) qs (rest ++ more)
are_stay bytes rest more [] x = ap (λ z. z ++ more) x
are_stay bytes rest more (q ∷ qs) x = (x.0 ++ more, begins_stays bytes more x.0 q x.1, are_stay x.0 rest more qs x.2)

head_has_bytes : (h : RequestHead) → 0 < length (print_request h)
unfolding print_request
head_has_bytes h = simp length-append (omega arith)

pub has_bytes : (bytes rest : List ℕ) (q : Request) → BeginsWithRequest bytes q rest → length rest < length bytes
has_bytes bytes rest q x =
    omega (arith, ap length x.2.head.reads.1, length-append (print_request x.0) (x.1 ++ rest), length-append x.1 rest, head_has_bytes x.0)

-- ---- ends

no_head_no_whole : (bytes : List ℕ) → HasNoHead bytes → HasNoWhole bytes
no_head_no_whole bytes none h content rest x = none h (content ++ rest) x.head

short_no_whole : (bytes : List ℕ) → HasShortBody bytes → HasNoWhole bytes
short_no_whole bytes b h content rest x =
    let u = heads_same bytes b.h h b.rest (content ++ rest) b.head x.head in
    let size = ok_same b.len (length content) (length_in h) (ap length_in (sym u.0) ∙ b.size) x.size in
    omega (arith, size, b.less, ap length u.1, length-append content rest)

pub unfinished_no_whole : (bytes : List ℕ) → IsUnfinished bytes → HasNoWhole bytes
unfinished_no_whole bytes (inl u) = no_head_no_whole bytes u.none
unfinished_no_whole bytes (inr b) = short_no_whole bytes b

cut_no_whole : (bytes : List ℕ) → IsCutOff bytes → HasNoWhole bytes
cut_no_whole bytes (inl u) = no_head_no_whole bytes u.0.none
cut_no_whole bytes (inr b) = short_no_whole bytes b

-- bytes that never become a head stay so with more behind them
pub never_more : (bytes : List ℕ) → IsBadHead Malformed bytes → NeverHasRequest bytes
never_more bytes x more h rest r =
    let p = room_parts bytes x.0 x.1 in
    x.2 (p.0 ++ more) h rest (r.0, sym (append_assoc x.0 p.0 more) ∙ ap (λ t. t ++ more) (sym p.1) ∙ r.1)

pub bad_beyond : (fault : HeadFault) (bytes more : List ℕ) → IsBadHead fault bytes → HasNoHead (bytes ++ more)
bad_beyond Malformed bytes more x h rest y = never_more bytes x more h rest y.reads
bad_beyond TooLarge bytes more x h rest y = no_head_beyond bytes more x.1 x.0 h rest y

bad_no_head : (fault : HeadFault) (bytes : List ℕ) → IsBadHead fault bytes → HasNoHead bytes
bad_no_head Malformed bytes x h rest y =
    never_more bytes x [] h (rest ++ []) (ReadsRequest-append bytes h rest [] y.reads)
bad_no_head TooLarge bytes x h rest y = x.0 h rest y

pub length_beyond : (bytes more : List ℕ) (h : RequestHead) (rest : List ℕ) (fault : LengthFault) → HasHead bytes h rest → length_in h ≡ Err fault → HasNoWhole (bytes ++ more)
length_beyond bytes more h rest fault x e k content r y =
    let u = heads_same (bytes ++ more) h k (rest ++ more) (content ++ r) (head_stays bytes h rest more x) y.head in
    ok_no_err (length content) fault (length_in h) (ap length_in u.0 ∙ y.size) e

length_no_whole : (bytes : List ℕ) (h : RequestHead) (rest : List ℕ) (fault : LengthFault) → HasHead bytes h rest → length_in h ≡ Err fault → HasNoWhole bytes
length_no_whole bytes h rest fault x e k content r y =
    let u = heads_same bytes h k rest (content ++ r) x y.head in
    ok_no_err (length content) fault (length_in h) (ap length_in u.0 ∙ y.size) e

pub end_no_whole : (end : HttpEnd) (bytes : List ℕ) (taken : ℕ) (ended : Bool) (before after : ℕ) → end ≢ OutOfMemory → IsEnd end bytes taken ended before after → HasNoWhole bytes
end_no_whole (Cut n) bytes taken ended before after m i = cut_no_whole bytes i.3
end_no_whole (BadHead f) bytes taken ended before after m i = no_head_no_whole bytes (bad_no_head f bytes i)
end_no_whole (BadLength f) bytes taken ended before after m i = length_no_whole bytes i.0 i.1 f i.2 i.3
end_no_whole ReadFault bytes taken ended before after m i = unfinished_no_whole bytes i.0
end_no_whole Spent bytes taken ended before after m i = unfinished_no_whole bytes i.0
end_no_whole OutOfMemory bytes taken ended before after m i = absurd (m refl)

unfinished_no_fault : (bytes : List ℕ) (h : RequestHead) (rest : List ℕ) (fault : LengthFault) → HasHead bytes h rest → length_in h ≡ Err fault → IsUnfinished bytes → ⊥
unfinished_no_fault bytes h rest fault x e (inl u) = u.none h rest x
unfinished_no_fault bytes h rest fault x e (inr b) =
    let u = heads_same bytes b.h h b.rest rest b.head x in
    ok_no_err b.len fault (length_in h) (ap length_in (sym u.0) ∙ b.size) e

cut_no_fault : (bytes : List ℕ) (h : RequestHead) (rest : List ℕ) (fault : LengthFault) → HasHead bytes h rest → length_in h ≡ Err fault → IsCutOff bytes → ⊥
cut_no_fault bytes h rest fault x e (inl u) = u.0.none h rest x
cut_no_fault bytes h rest fault x e (inr b) = unfinished_no_fault bytes h rest fault x e (inr b)

pub length_told : (end : HttpEnd) (bytes : List ℕ) (taken : ℕ) (ended : Bool) (before after : ℕ) (h : RequestHead) (rest : List ℕ) (fault : LengthFault) → HasHead bytes h rest → length_in h ≡ Err fault
    → end ≢ OutOfMemory → IsEnd end bytes taken ended before after → end ≡ BadLength fault
length_told (Cut n) bytes taken ended before after h rest fault x e m i = absurd (cut_no_fault bytes h rest fault x e i.3)
length_told (BadHead f) bytes taken ended before after h rest fault x e m i = absurd (bad_no_head f bytes i h rest x)
length_told (BadLength f) bytes taken ended before after h rest fault x e m i =
    let u = heads_same bytes i.0 h i.1 rest i.2 x in
    ap (λ z. BadLength z) (err_same f fault (length_in h) (ap length_in (sym u.0) ∙ i.3) e)
length_told ReadFault bytes taken ended before after h rest fault x e m i = absurd (unfinished_no_fault bytes h rest fault x e i.0)
length_told Spent bytes taken ended before after h rest fault x e m i = absurd (unfinished_no_fault bytes h rest fault x e i.0)
length_told OutOfMemory bytes taken ended before after h rest fault x e m i = absurd (m refl)
