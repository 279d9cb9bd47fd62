-- What a command that words ask for needs, and what its run is for the words.
use Rattle.std.proofs.Common.{◌≡◌, ℕ, Bool, true, List, inl, inr, arith}
use Rattle.std.specs.declared.option.Option.{Option}
use Rattle.sc_words.specs.Asks.{Asks, AreServeWords, AreKeepWords}
use Rattle.sc_words.specs.declared.command.Command.{Command}
use Rattle.sc_words.specs.declared.command.Command.TheVariants as Ask
use Rattle.sc_words.specs.declared.command.Serving.{Serving}
use Rattle.sc_words.specs.declared.command.Keeping.{Keeping}
use Rattle.stacd.specs.Program.{Input, Output, CanRun, Runs, RunsCommand}

-- the command can run where there are the listeners and the disk that the words ask for
pub can_run : (words : List (List ℕ)) (command : Command) (listeners : ℕ) (disk : Bool) → Asks words command → ((serving : Serving) → AreServeWords words serving → listeners ≡ serving.workers)
    → ((keeping : Keeping) → AreKeepWords words keeping → (listeners ≡ keeping.workers) × (disk ≡ true)) → CanRun listeners disk command
can_run words (Ask.Page limit) listeners disk a as_many held = let p = a.2.positive in let l = a.2.limit in (omega (arith, p, l), omega (arith, l))
can_run words (Ask.Pipe base) listeners disk a as_many held = tt
can_run words (Ask.Serve serving) listeners disk a as_many held = (as_many serving a, a.workers_are.above, a.workers_are.below, a.tighteners_are.below)
can_run words (Ask.Keep keeping) listeners disk a as_many held = ((held keeping a).0, a.workers_are.above, a.workers_are.below, (held keeping a).1)

module _ {In Out N D : Type 0} (left : In → Option (List ℕ)) (ended : In → Bool) (faults : In → ℕ) (written : Out → Option (List ℕ)) (write_faults : Out → ℕ) (net_left net_back : N → Option (List (In × Out))) (net_faults : N → ℕ)
    (tells : D → Type 0) (reads : D → List ℕ) (may_leave : D → List ℕ → Type 0) (disk_faults : D → ℕ)
    (input input' : Input) (output output' errors errors' : Output) (nets nets' : List N) (disk disk' : Option D) where
  -- what is done for a command is done for the words that ask for it
  pub runs : (words : List (List ℕ)) (command : Command) (status : ℕ) → Asks words command
      → RunsCommand left ended faults written write_faults net_left net_back net_faults tells reads may_leave disk_faults input input' output output' errors errors' nets nets' disk disk' command status
      → Runs left ended faults written write_faults net_left net_back net_faults tells reads may_leave disk_faults input input' output output' errors errors' nets nets' disk disk' words status
  runs words command status a (inl d) = Runs.did command a d
  runs words command status a (inr w) = Runs.wanted w
