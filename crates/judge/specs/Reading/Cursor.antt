-- What the readers of a model text give.
use Rattle.std.specs.Prelude.{ℕ, ◌+◌, Result}
use Rattle.model.specs.declared.fault.ModelFault.{ModelFault}
use Rattle.judge.specs.{declared.cursor.Cursor.Cursor, declared.fault.Misread.Misread}

abbrev pub misread : ModelFault → ℕ → Misread
misread f p = record { fault = f; place = p }

-- where one stands behind what it read, or why and where the text is no model
abbrev pub Got : Type 0
Got = Result Cursor Misread

-- behind a byte that begins neither a node nor a name
abbrev pub one_on : Cursor → ℕ → Cursor
one_on c h = record { at = c.at + 1; nodes = c.nodes; names = c.names; height = h }
