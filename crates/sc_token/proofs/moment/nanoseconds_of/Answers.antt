use Rattle.std.proofs.Common.{◌≡◌, suc, sym, ap, ◌∙◌, Some, None, lit<, pos, unwrap_or}
use Rattle.std.proofs.lemmas.Str.Pattern.{strip_prefix_char}
use Rattle.sc_token.proofs.Decimals.{with_dash, without_dash, negated}
use Rattle.sc_token.proofs.moment.nanoseconds_of.Goals as goal

pub returns-in-Some-size_of : goal.returns-in-Some-size_of
returns-in-Some-size_of c at h e =
    let dash = strip_prefix_char 45 c.args.text.now c.strip_prefix.result c.strip_prefix.ensures.cases (lit< tt) in
    let b = with_dash c.args.text.now c.in-Some.digits.now at h e (rw c.in-Some.is at dash) in
    let found : Some c.in-Some-size_of.size ≡ Some (pos (suc b.size)) = c.in-Some-size_of.ensures.size (suc b.size) b.small b.spelled in
    ap Some (negated b.size c.in-Some-size_of.size b.small (ap (λ o. unwrap_or o (pos 0)) found) ∙ sym b.is)

pub returns-in-None-size_of : goal.returns-in-None-size_of
returns-in-None-size_of c at h e =
    let dash = strip_prefix_char 45 c.args.text.now c.strip_prefix.result c.strip_prefix.ensures.cases (lit< tt) in
    let b = with_dash c.args.text.now c.in-Some.digits.now at h e (rw c.in-Some.is at dash) in
    let found : None ≡ Some (pos (suc b.size)) = c.in-None-size_of.ensures.size (suc b.size) b.small b.spelled in
    cc

pub returns-in-None : goal.returns-in-None
returns-in-None c at h e =
    let dash = strip_prefix_char 45 c.args.text.now c.strip_prefix.result c.strip_prefix.ensures.cases (lit< tt) in
    let b = without_dash c.args.text.now at h e (rw c.in-None.is at dash) in
    c.size_of-in-None.ensures.size b.size b.small b.spelled ∙ ap Some (sym b.is)
