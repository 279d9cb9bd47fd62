use Rattle.std.proofs.Common.{sym, ◌∙◌}
use Rattle.sc_item.proofs.Excluding.{refused_line}
use Rattle.sc_item.proofs.line.read_line.Goals as goal

pub returns-else-is_text_memory : goal.returns-else-is_text_memory
returns-else-is_text_memory c =
    refused_line c.args.line.now c.in-Err.fault (sym c.is_text_memory.ensures ∙ c.if-is_text_memory.false) c.in-Err.ensures
