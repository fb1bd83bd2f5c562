use Rattle.command.proofs.Standing.{end_below}
use borrow.Author.Rules.{rules}
use Rattle.command.proofs.decode.found_at.Goals as goal

pub overflow_add-result : goal.overflow_add-result
overflow_add-result c = record { fits = rw (c.width.ensures, c.command_at-command.ensures) (end_below _ _ _ (search rules) (search rules)) }

pub returns : goal.returns
returns c = rw (c.width.ensures, c.command_at-command.ensures)
