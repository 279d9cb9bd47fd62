use Rattle.std.proofs.Common.{◌≡◌, ◌<◌, ◌≤◌, ◌++◌, length, take, get_or, true, ap, ◌∙◌, arith, string_bytes, subst, List, ℕ}
use Rattle.std.specs.List.{list_all, flat_map}
use Rattle.std.proofs.lemmas.Str.{IsCharBoundary-after_ascii}
use Rattle.sc_cqlwrite.specs.Tokens.{is_other, marked}
use Rattle.sc_cqlwrite.proofs.Quoting.{text_goes_on, text_ends, front_range}
use Rattle.sc_cqlwrite.proofs.bytes.push_quoted.Goals as goal

pub texts-preserved : goal.texts-preserved
texts-preserved c =
    let rest : List ℕ = c.texts.rest.now in let n : ℕ = c.plain_len-plain.result in
    let mark : ℕ = c.args.mark in let quote : ℕ = c.args.quote in
    let mid : string_bytes c.push_str.new.self ≡ string_bytes c.texts.out ++ take n rest =
    c.in_ok-push_str.ensures.bytes ∙ ap (λ (x : List ℕ). string_bytes c.texts.out ++ x) (c.range.ensures.value ∙ front_range rest n) in
    let within : n ≤ length rest = subst (λ (x : List ℕ). n ≤ length x) c.as_bytes.ensures.value c.plain_len-plain.ensures.within in
    let lt : n < length rest = omega arith in
    let all : list_all (is_other quote) (take n rest) ≡ true = subst (λ (x : List ℕ). list_all (is_other quote) (take n x) ≡ true) c.as_bytes.ensures.value c.plain_len-plain.ensures.plain in
    let ends : n < length rest → get_or rest n 0 ≡ quote = subst (λ (x : List ℕ). n < length x → get_or x n 0 ≡ quote) c.as_bytes.ensures.value c.plain_len-plain.ensures.ends in
    record {
      utf8 = c.range_from-rest.utf8;
      same = ap (λ (x : List ℕ). string_bytes c.push_marked.new.out ++ flat_map (marked mark quote) x) c.range_from-rest.ensures.value ∙ text_goes_on mark quote (string_bytes c.texts.out) (string_bytes c.push_str.new.self) (string_bytes c.push_marked.new.out) _ rest n mid c.in_ok-push_marked.ensures lt all (ends lt) c.texts.invariant.same;
    }

pub range_from-rest-requires : goal.range_from-rest-requires
range_from-rest-requires c =
    let rest : List ℕ = c.texts.rest.now in let n : ℕ = c.plain_len-plain.result in
    let quote : ℕ = c.args.quote in
    let within : n ≤ length rest = subst (λ (x : List ℕ). n ≤ length x) c.as_bytes.ensures.value c.plain_len-plain.ensures.within in
    let lt : n < length rest = omega arith in
    let ends : n < length rest → get_or rest n 0 ≡ quote = subst (λ (x : List ℕ). n < length x → get_or x n 0 ≡ quote) c.as_bytes.ensures.value c.plain_len-plain.ensures.ends in
    let here : get_or rest n 0 ≡ quote = ends lt in
    let low : get_or rest n 0 < 128 = omega arith in
    λ _. IsCharBoundary-after_ascii rest n c.texts.invariant.utf8 lt low

pub returns : goal.returns
returns c =
    let rest : List ℕ = c.texts.rest.now in let n : ℕ = c.plain_len-plain.result in
    let quote : ℕ = c.args.quote in
    let mid : string_bytes c.push_str.new.self ≡ string_bytes c.texts.out ++ take n rest =
    c.in_ok-push_str.ensures.bytes ∙ ap (λ (x : List ℕ). string_bytes c.texts.out ++ x) (c.range.ensures.value ∙ front_range rest n) in
    let all : list_all (is_other quote) (take n rest) ≡ true = subst (λ (x : List ℕ). list_all (is_other quote) (take n x) ≡ true) c.as_bytes.ensures.value c.plain_len-plain.ensures.plain in
    text_ends c.args.mark quote (string_bytes c.args.out.now) (string_bytes c.push.new.self) (string_bytes c.texts.out) (string_bytes c.push_str.new.self) (string_bytes c.push-2.new.self) c.args.text.now rest n
    (c.in_ok-push.ensures.bytes ∙ ap (λ (x : List ℕ). string_bytes c.args.out.now ++ x) (c.in_ok-push.ensures.ascii c.requires.quote)) mid c.if-plain-rest.true all c.texts.invariant.same
    (c.in_ok-push-2.ensures.bytes ∙ ap (λ (x : List ℕ). string_bytes c.push_str.new.self ++ x) (c.in_ok-push-2.ensures.ascii c.requires.quote))
