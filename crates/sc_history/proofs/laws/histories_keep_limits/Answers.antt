use Rattle.sc_history.proofs.Limits.{few_bytes, few_collections, few_entries, few_parts}
use Rattle.sc_history.proofs.laws.histories_keep_limits.Goals as goal

pub returns : goal.returns
returns c = record { entries = few_entries; bytes = few_bytes; parts = few_parts; collections = few_collections }
