use Rattle.std.proofs.Common.{◌≡◌, ◌++◌, ◌∙◌, ap, sym, take, drop, arith, take-append-drop}
use Rattle.sc_weave.proofs.Feeds.{feed_there}
use Rattle.sc_weave.proofs.Taking.{wants_before, wants_behind, taken_more, taken_stop}
use Rattle.sc_weave.proofs.lines.weave_bytes.Goals as goal

pub returns-in-Err-clause-stops : goal.returns-in-Err-clause-stops
returns-in-Err-clause-stops g c = λ start taken h all. wants_before start _ _ _ taken h all c.args.bytes.now

pub returns-in-Err-extend_from_slice-clause-stops : goal.returns-in-Err-extend_from_slice-clause-stops
returns-in-Err-extend_from_slice-clause-stops g c = λ start taken h all. wants_before start _ _ _ taken h all c.args.bytes.now

pub returns-in-Err-weave_all-clause-stops : goal.returns-in-Err-weave_all-clause-stops
returns-in-Err-weave_all-clause-stops g c = λ start taken h all.
    let at = c.behind_feeds-end.result in
    let bytes = c.args.bytes.now in
    let joined : c.as_slice.result.now ≡ c.args.pending.now.items ++ take at bytes = c.as_slice.ensures.value ∙ c.in-Ok-extend_from_slice.ensures.items ∙ ap (λ t. c.args.pending.now.items ++ t) c.split_at.ensures.front in
    taken_stop start _ _ _ taken h bytes (take at bytes) (drop at bytes) c.as_slice.result.now (sym (take-append-drop at bytes)) (feed_there bytes at c.behind_feeds-end.ensures (λ e. omega (arith, e))) joined
    c.in-Err-weave_all.end _ all (c.in-Err-weave_all.ensures.stops start h.lines h.written.told)

pub returns-in-Ok-extend_from_slice-2-clause-stops : goal.returns-in-Ok-extend_from_slice-2-clause-stops
returns-in-Ok-extend_from_slice-2-clause-stops g c = λ start taken h.
    let at = c.behind_feeds-end.result in
    let bytes = c.args.bytes.now in
    let joined : c.as_slice.result.now ≡ c.args.pending.now.items ++ take at bytes = c.as_slice.ensures.value ∙ c.in-Ok-extend_from_slice.ensures.items ∙ ap (λ t. c.args.pending.now.items ++ t) c.split_at.ensures.front in
    let rest : c.extend_from_slice-3.new.self.items ≡ drop at bytes = c.in-Ok-extend_from_slice-2.ensures.items ∙ ap (λ t. t ++ c.split_at.result.1.now) c.clear.ensures.items ∙ c.split_at.ensures.back in
    rw rest (taken_more start _ _ _ taken h bytes (take at bytes) (drop at bytes) c.as_slice.result.now (sym (take-append-drop at bytes)) (feed_there bytes at c.behind_feeds-end.ensures (λ e. omega (arith, e))) joined
    _ _ (c.in-Ok-weave_all.ensures.stops start h.lines h.written.told) c.behind_feeds-end.ensures.behind)

pub returns-in-Err-extend_from_slice-2-clause-stops : goal.returns-in-Err-extend_from_slice-2-clause-stops
returns-in-Err-extend_from_slice-2-clause-stops g c = λ start taken h all.
    let at = c.behind_feeds-end.result in
    let bytes = c.args.bytes.now in
    let joined : c.as_slice.result.now ≡ c.args.pending.now.items ++ take at bytes = c.as_slice.ensures.value ∙ c.in-Ok-extend_from_slice.ensures.items ∙ ap (λ t. c.args.pending.now.items ++ t) c.split_at.ensures.front in
    wants_behind start _ _ _ taken h bytes (take at bytes) (drop at bytes) c.as_slice.result.now (sym (take-append-drop at bytes)) (feed_there bytes at c.behind_feeds-end.ensures (λ e. omega (arith, e))) joined
    _ _ (c.in-Ok-weave_all.ensures.stops start h.lines h.written.told) all
