-- One stretch of reading after another.
use Rattle.std.proofs.Common.{◌≡◌, ℕ, zero, suc, ◌+◌, ◌-◌, ◌≤◌, Bool, List, [], ◌∷◌, ◌++◌, length, take, drop, refl, sym, ap, ◌∙◌, subst, arith, append_assoc, append-nil, length-append, inl, inr, Some, None, Result, Ok, Err}
use Rattle.std.proofs.lemmas.Bool.Decides.{nat_tests}
use Rattle.std.specs.Prelude.{true, false, ◌==◌, ◌&&◌}
use Rattle.std.specs.declared.option.Option.{Option}
use Rattle.std.specs.Io.KnownBytes.{Consumes, Keeps}
use Rattle.std.proofs.lemmas.List.{take_all, take-append-le, length-drop, length-take}
use Rattle.sc_http.specs.declared.fault.HttpEnd.{HttpEnd}
use Rattle.sc_http.specs.declared.fault.HttpEnd.TheVariants.{Cut, BadHead, BadLength, ReadFault, Spent, OutOfMemory}
use Rattle.sc_http.specs.Requests.{BeginsWithRequest}
use Rattle.sc_http.specs.declared.request.Request.{Request}
use Rattle.sc_http.specs.Reading.{UnlessMemory}
use Rattle.sc_http.specs.Intake.{Held, Takes, Counts, Lazily, Reads, IsUnfinished, IsUnfinishedHead, IsEnd, FirstOf, EndsOf}

consumed_twice : (a b c : Option (List ℕ)) (x y : List ℕ) → Consumes a b x → Consumes b c y → Consumes a c (x ++ y)
consumed_twice None b c x y p q = tt
consumed_twice (Some u) None c x y p q = absurd p
consumed_twice (Some u) (Some v) None x y p q = absurd q
consumed_twice (Some u) (Some v) (Some w) x y p q = p ∙ ap (λ t. x ++ t) q ∙ sym (append_assoc x y w)

keeps_none : (a b : Option (List ℕ)) → Keeps a b → Consumes a b []
keeps_none None b k = tt
keeps_none (Some u) None k = absurd k
keeps_none (Some u) (Some v) k = sym k

pub takes_twice : (old mid now : List ℕ) (n m k : ℕ) (a b c : Option (List ℕ)) → Takes old mid n m a b → Takes mid now m k b c → Takes old now n k a c
takes_twice old mid now n m k a b c s t = record {
  taken = s.taken ++ t.taken;
  parts = t.parts ∙ ap (λ z. z ++ t.taken) s.parts ∙ append_assoc old s.taken t.taken;
  took = consumed_twice a b c s.taken t.taken s.took t.took;
  counted = omega (arith, s.counted, t.counted, length-append s.taken t.taken);
}

lazily_twice : (old mid first then : List ℕ) → mid ≡ old ++ first → Lazily old first → Lazily mid then → Lazily old (first ++ then)
lazily_twice old mid first then e s (inl x) = subst (Lazily old) (sym (ap (λ z. first ++ z) x ∙ append-nil first)) s
lazily_twice old mid first then e s (inr x) = inr (
  first ++ x.0,
  x.1,
  ap (λ z. first ++ z) x.2 ∙ sym (append_assoc first x.0 x.1),
  x.3,
  subst IsUnfinished (ap (λ z. z ++ x.0) e ∙ append_assoc old first x.0) x.4,
)

pub reads_twice : (old mid now : List ℕ) (n m k : ℕ) (a b c : Option (List ℕ)) → Reads old mid n m a b → Reads mid now m k b c → Reads old now n k a c
unfolding takes_twice
reads_twice old mid now n m k a b c s t = record {
  takes = takes_twice old mid now n m k a b c s.takes t.takes;
  lazily = lazily_twice old mid s.takes.taken t.takes.taken s.takes.parts s.lazily t.lazily;
}

pub reads_none : (old : List ℕ) (n : ℕ) (a b : Option (List ℕ)) → Consumes a b [] → Reads old old n n a b
reads_none old n a b k = record {
  takes = record { taken = []; parts = sym (append-nil old); took = k; counted = omega arith };
  lazily = inl refl;
}

pub reads_kept : (old : List ℕ) (n : ℕ) (a b : Option (List ℕ)) → Keeps a b → Reads old old n n a b
reads_kept old n a b k = reads_none old n a b (keeps_none a b k)

consumes_same : (a : Option (List ℕ)) → Consumes a a []
consumes_same None = tt
consumes_same (Some u) = refl

pub reads_same : (old : List ℕ) (n : ℕ) (a : Option (List ℕ)) → Reads old old n n a a
reads_same old n a = reads_none old n a a (consumes_same a)

-- a read that gave nothing
pub reads_end : (old held buf : List ℕ) (n m count : ℕ) (a b c : Option (List ℕ)) → Reads old held n m a b → Consumes b c (take count buf) → count ≡ 0 → Reads old held n m a c
reads_end old held buf n m count a b c s k e =
    reads_twice old held held n m m a b c s (reads_none held m b c (subst (Consumes b c) (ap (λ v. take v buf) e) k))

-- a read that failed
pub reads_failed : (old held : List ℕ) (n m : ℕ) (a b c : Option (List ℕ)) → Reads old held n m a b → Keeps b c → Reads old held n m a c
reads_failed old held n m a b c s k = reads_twice old held held n m m a b c s (reads_kept held m b c k)

drop_none : (b : ℕ) → drop {A = ℕ} b [] ≡ []
drop_none zero = refl
drop_none (suc b) = refl

drop_after : (a b : ℕ) (xs : List ℕ) → drop b (drop a xs) ≡ drop (a + b) xs
drop_after zero b xs =
    let e : b ≡ zero + b = omega arith in
    ap (λ k. drop k xs) e
drop_after (suc a) b [] = drop_none b ∙ sym (drop_none (suc a + b))
drop_after (suc a) b (x ∷ xs) =
    let e : suc a + b ≡ suc (a + b) = omega arith in
    drop_after a b xs ∙ ap (λ k. drop k (x ∷ xs)) (sym e)

end_before : (e : HttpEnd) (bytes : List ℕ) (taken : ℕ) (ended : Bool) (old mid now : ℕ) → old ≤ mid → IsEnd e bytes taken ended mid now → IsEnd e bytes taken ended old now
end_before (Cut n) bytes taken ended old mid now le i = i
end_before (BadHead f) bytes taken ended old mid now le i = i
end_before (BadLength f) bytes taken ended old mid now le i = i
end_before ReadFault bytes taken ended old mid now le i = (i.0, omega (arith, le, i.1))
end_before Spent bytes taken ended old mid now le i = i
end_before OutOfMemory bytes taken ended old mid now le i = i

pub rest_of : (xs held : List ℕ) (at : ℕ) → xs ≡ held → take (length xs - at) (drop at xs) ≡ drop at held
rest_of xs held at e = take_all (length xs - at) (drop at xs) (omega (arith, length-drop at xs)) ∙ ap (drop at) e

pub first_after : (q : Request) (old held mid : List ℕ) (at used n m k : ℕ) (a b c : Option (List ℕ)) → mid ≡ drop at held → Reads old (drop at held) n m a b → FirstOf q mid (drop used mid) m k b c → FirstOf q old (drop (at + used) held) n k a c
first_after q old held mid at used n m k a b c e s f =
    let t = subst (λ z. FirstOf q z (drop used z) m k b c) e f in
    (t.0, reads_twice old (drop at held) t.0 n m k a b c s t.1, subst (BeginsWithRequest t.0 q) (drop_after at used held) t.2)

pub ends_after : (end : HttpEnd) (old held mid : List ℕ) (n m k : ℕ) (a b c : Option (List ℕ)) (ended : Bool) (x y z : ℕ) → mid ≡ held → x ≤ y → Reads old held n m a b → EndsOf end mid m k b c ended y z → EndsOf end old n k a c ended x z
ends_after end old held mid n m k a b c ended x y z e le s f o =
    let u = subst (λ v. EndsOf end v m k b c ended y z) e f o in
    (u.0, reads_twice old held u.0 n m k a b c s u.1, end_before end u.0 k ended x y z le u.2)

drop_append : (at : ℕ) (xs ys : List ℕ) → at ≤ length xs → drop at (xs ++ ys) ≡ drop at xs ++ ys
drop_append zero xs ys le = refl
drop_append (suc at) [] ys le = absurd (omega (arith, le))
drop_append (suc at) (x ∷ xs) ys le = drop_append at xs ys (omega (arith, le))

-- what one further read keeps
pub grown : (at : ℕ) (held held' chunk : List ℕ) → at ≤ length held → held' ≡ held ++ chunk → drop at held' ≡ drop at held ++ chunk
grown at held held' chunk within grew = ap (drop at) grew ∙ drop_append at held chunk within

pub reads_more : (at : ℕ) (old held held' buf rest : List ℕ) (n m count : ℕ) (a b c : Option (List ℕ)) → at ≤ length held → held' ≡ held ++ take count (buf ++ rest) → count ≤ length buf → count ≤ 8192
    → Reads old (drop at held) n m a b → Consumes b c (take count buf) → IsUnfinishedHead (drop at held) → Reads old (drop at held') n (m + count) a c
reads_more at old held held' buf rest n m count a b c within grew fits few s took none =
    let chunk = take count (buf ++ rest) in
    let same : chunk ≡ take count buf = take-append-le count buf rest fits in
    let size : length chunk ≡ count = omega (arith, fits, ap length same, length-take count buf) in
    reads_twice old (drop at held) (drop at held') n m (m + count) a b c s (record {
      takes = record {
        taken = chunk;
        parts = grown at held held' chunk within grew;
        took = subst (Consumes b c) (sym same) took;
        counted = ap (λ k. m + k) (sym size);
      };
      lazily = inr ([], chunk, refl, omega (arith, size, few), inl (subst IsUnfinishedHead (sym (append-nil (drop at held))) none));
    })

pub within_more : (at : ℕ) (held held' chunk : List ℕ) → at ≤ length held → held' ≡ held ++ chunk → at ≤ length held'
within_more at held held' chunk within grew = omega (arith, within, ap length grew, length-append held chunk)

-- P, whatever the answer
pub unless : {T : Type 0} (r : Result T HttpEnd) (P : Type 0) → P → UnlessMemory r P
unless (Ok x) P p = p
unless (Err e) P p = λ m. p

-- where nothing is held in the end, nothing was held and nothing was taken
pub none_taken : (old now : List ℕ) (n m : ℕ) (a b : Option (List ℕ)) → now ≡ [] → Takes old now n m a b → (old ≡ []) × (m ≡ n) × Consumes a b []
none_taken [] now n m a b e t =
    let nothing : t.taken ≡ [] = sym t.parts ∙ e in
    (refl, omega (arith, t.counted, ap length nothing), subst (Consumes a b) nothing t.took)
none_taken (x ∷ old) now n m a b e t = absurd (omega (arith, ap length e, ap length t.parts, length-append (x ∷ old) t.taken))

pub held_same : (a b : Held) → a.bytes ≡ b.bytes → a.taken ≡ b.taken → a ≡ b
held_same a b p q = λ i. record { bytes = p i; taken = q i }

-- a read that gave something didn't end
pub still_open : (ended : Bool) (count : ℕ) (b : Bool) → (count ≡ 0 → ⊥) → ended ≡ (count == 0) && b → ended ≡ true → ⊥
still_open ended count b some e x =
    let test : (count == 0) ≡ false = grind (arith, nat_tests) in
    no_end ended (count == 0) b test e x
  where
    no_end : (ended t b : Bool) → t ≡ false → ended ≡ t && b → ended ≡ true → ⊥
    no_end ended true b f e x = cc
    no_end ended false b f e x = cc

-- ---- what was counted, however it ended

pub counts_same : (n : ℕ) (a : Option (List ℕ)) → Counts n n a a
counts_same n a = record { taken = []; took = consumes_same a; counted = omega arith }

pub counts_twice : (n m k : ℕ) (a b c : Option (List ℕ)) → Counts n m a b → Counts m k b c → Counts n k a c
counts_twice n m k a b c s t = record {
  taken = s.taken ++ t.taken;
  took = consumed_twice a b c s.taken t.taken s.took t.took;
  counted = omega (arith, s.counted, t.counted, length-append s.taken t.taken);
}

pub counts_takes : (old now : List ℕ) (n m : ℕ) (a b : Option (List ℕ)) → Takes old now n m a b → Counts n m a b
counts_takes old now n m a b t = record { taken = t.taken; took = t.took; counted = t.counted }

pub counts_reads : (old now : List ℕ) (n m : ℕ) (a b : Option (List ℕ)) → Reads old now n m a b → Counts n m a b
counts_reads old now n m a b r = counts_takes old now n m a b r.takes

pub counts_kept : (n m : ℕ) (a b c : Option (List ℕ)) → Counts n m a b → Keeps b c → Counts n m a c
counts_kept n m a b c s k = counts_twice n m m a b c s (record { taken = []; took = keeps_none b c k; counted = omega arith })

pub counts_end : (buf : List ℕ) (n m count : ℕ) (a b c : Option (List ℕ)) → Counts n m a b → Consumes b c (take count buf) → count ≡ 0 → Counts n m a c
counts_end buf n m count a b c s k e =
    counts_twice n m m a b c s (record { taken = []; took = subst (Consumes b c) (ap (λ v. take v buf) e) k; counted = omega arith })

pub counts_more : (buf : List ℕ) (n m count : ℕ) (a b c : Option (List ℕ)) → Counts n m a b → Consumes b c (take count buf) → count ≤ length buf → Counts n (m + count) a c
counts_more buf n m count a b c s k fits =
    counts_twice n m (m + count) a b c s (record { taken = take count buf; took = k; counted = omega (arith, fits, length-take count buf) })
