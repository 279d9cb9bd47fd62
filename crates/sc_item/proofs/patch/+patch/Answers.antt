use Rattle.std.proofs.Common.{rules, subst, ◌≡◌, [], ◌∷◌, ◌++◌, true, false, Some, None, ap, sym, ◌∙◌, append-nil, arith}
use Rattle.std.proofs.lemmas.Grind.{common_steps}
use Rattle.sc_json.specs.declared.tree.Member.{Member, out-Member}
use Rattle.sc_json.specs.Grammar.{member}
use Rattle.sc_json.specs.Names.{has_name}
use Rattle.sc_json.specs.Member.{value_in}
use Rattle.sc_item.specs.Trees.{is_null, is_object}
use Rattle.sc_item.specs.Patch.{Patched, none_kept, none_added, same, removed, changed, known, nothing, new}
use Rattle.sc_item.proofs.Patches.{made, merged_from, kept_more, added_more, all_kept, copied}
use Rattle.sc_item.proofs.patch.+patch.Goals as goal

pub add-returns-then-has_in : goal.add-returns-then-has_in
add-returns-then-has_in t c =
    let e : has_name c.args.members.now (out-Member c.args.change.now).name ≡ true = cc in
    ([], sym (append-nil _), known _ _ e)

pub add-returns-then-is_null : goal.add-returns-then-is_null
add-returns-then-is_null t c =
    let e : has_name c.args.members.now (out-Member c.args.change.now).name ≡ false = cc in
    let n : is_null (out-Member c.args.change.now).value ≡ true = cc in
    ([], sym (append-nil _), nothing _ _ e n)

pub add-returns : goal.add-returns
add-returns t c =
    let e : has_name c.args.members.now (out-Member c.args.change.now).name ≡ false = cc in
    let n : is_null (out-Member c.args.change.now).value ≡ false = cc in (
      member (out-Member c.args.change.now).name c.in_ok-value.value ∷ [],
      c.in_ok-push.ensures.items ∙ ap (λ x. c.args.all.now.items ++ (member x c.in_ok-value.value ∷ [])) c.in_ok-name.ensures,
      new _ _ _ e n c.in_ok-value.ensures,
    )

pub changed-loop-member-init : goal.changed-loop-member-init
changed-loop-member-init t c = rw c.in_ok-all.ensures.items (none_kept _)

pub changed-loop-member-preserved : goal.changed-loop-member-preserved
changed-loop-member-preserved t c = kept_more _ _ _ _ _ _ c.loop-member-test.true c.member-item.is c.loop-member.invariant c.in_ok-keep.ensures

pub changed-loop-change-init : goal.changed-loop-change-init
changed-loop-change-init t c = (c.loop-member.all.items, [], sym (append-nil _), all_kept _ _ _ _ c.loop-member.invariant (omega arith), none_added _)

pub changed-loop-change-preserved : goal.changed-loop-change-preserved
changed-loop-change-preserved t c = added_more _ _ _ _ _ _ c.loop-change-test.true c.change-item.is c.loop-change.invariant c.in_ok-add.ensures

pub keep-returns-then-is_null : goal.keep-returns-then-is_null
keep-returns-then-is_null t c =
    let v = c.in-Some.ensures.1 c.index-changes-at.result c.index-changes-at.is in
    let e : value_in c.args.changes.now (out-Member c.args.member.now).name ≡ Some (out-Member c.index-changes-at.result).value = cc in
    let n : is_null (out-Member c.index-changes-at.result).value ≡ true = cc in
    ([], sym (append-nil _), removed _ _ _ e n)

pub keep-returns-in_ok-push-in-None : goal.keep-returns-in_ok-push-in-None
keep-returns-in_ok-push-in-None t c =
    let e : value_in c.args.changes.now (out-Member c.args.member.now).name ≡ None = c.in-None.ensures in (
      c.args.member.now ∷ [],
      c.in_ok-push-in-None.ensures.items ∙ ap (λ x. c.args.all.now.items ++ (x ∷ [])) (made _ _ c.args.member.now c.in_ok-name-in-None.ensures c.in_ok-value-in-None.ensures),
      same c.args.changes.now c.args.member.now e,
    )

pub keep-returns-in_ok-push-in-Some : goal.keep-returns-in_ok-push-in-Some
keep-returns-in_ok-push-in-Some t c =
    let v = c.in-Some.ensures.1 c.index-changes-at.result c.index-changes-at.is in
    let e : value_in c.args.changes.now (out-Member c.args.member.now).name ≡ Some (out-Member c.index-changes-at.result).value = cc in
    let n : is_null (out-Member c.index-changes-at.result).value ≡ false = cc in (
      member (out-Member c.args.member.now).name c.in_ok-value-in-Some.value ∷ [],
      c.in_ok-push-in-Some.ensures.items ∙ ap (λ x. c.args.all.now.items ++ (member x c.in_ok-value-in-Some.value ∷ [])) c.in_ok-name-in-Some.ensures,
      changed c.args.changes.now c.args.member.now (out-Member c.index-changes-at.result).value c.in_ok-value-in-Some.value e n (subst (λ (x : Member). Patched (out-Member c.args.member.now).value (out-Member x).value c.in_ok-value-in-Some.value) (sym c.index-changes-at.is) c.in_ok-value-in-Some.ensures),
    )

pub patched-returns-in_ok-members-in-Object : goal.patched-returns-in_ok-members-in-Object
patched-returns-in_ok-members-in-Object t c =
    merged_from _ _ _ _ _ _ _ c.in-Object.is c.as_slice.ensures c.members_in.ensures c.of.ensures c.in_ok-members-in-Object.ensures

pub patched-returns-in_default : goal.patched-returns-in_default
unfolding is_object
patched-returns-in_default t c =
    let isnt : is_object c.args.patch.now ≡ false = first_of (search rules, grind (arith, common_steps)) in
    copied c.try_clone.result c.args.target.now c.args.patch.now isnt c.try_clone.ensures
