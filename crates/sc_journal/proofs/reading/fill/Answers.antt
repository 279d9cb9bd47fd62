use Rattle.std.proofs.Common.{ℕ, List, ◌+◌, ◌-◌, ◌≤◌, ◌++◌, length, take, drop, ap, ◌∙◌, arith, rules, length-append}
use Rattle.std.proofs.lemmas.List.{length-take, take-append-le}
use Rattle.sc_journal.proofs.Looking.{observed_more}
use Rattle.sc_journal.proofs.Gates.{fill_more}
use Rattle.sc_journal.proofs.reading.fill.Goals as goal
use borrow.Rule.Slice.PartMut.{post_of}

pub filling-preserved : goal.filling-preserved
filling-preserved g c =
    let so_far = c.filling.invariant in
    let filled = c.filling.filled in
    let n = c.in_ok-count.count in
    let piece = c.read_at.new.buf in
    let behind = post_of filled (length c.filling.buf - filled) c.filling.buf in
    let bound : n ≤ length piece = c.in_ok-count.ensures.bound.0 in
    let file = g.D.Disk.reads c.args.disk.now in
    record {
      within = omega (arith, so_far.within, bound, length-append (take filled c.filling.buf) (piece ++ behind), length-append piece behind, length-take filled c.filling.buf);
      length_is = search rules;
      bytes = λ t.
          let told = c.read_at.ensures.told t in
          let read = c.in_ok-count.ensures.bytes t ∙ ap (λ (f : List ℕ). take n (drop (c.args.at + filled) f)) (so_far.observed.reads_same told) in
          fill_more c.filling.buf (piece ++ behind) file filled n c.args.at so_far.within (so_far.bytes told) (take-append-le n piece behind bound ∙ read);
      observed = observed_more g.D.Disk.tells g.D.Disk.reads g.D.Disk.may_leave g.D.Disk.clock g.D.Disk.left_since c.args.disk.now c.filling.disk c.read_at.new.self so_far.observed c.read_at.ensures.told c.read_at.ensures.reads c.read_at.ensures.crash c.read_at.ensures.since c.read_at.ensures.clock;
      later = omega (arith, so_far.later, c.read_at.ensures.cause.later);
    }
