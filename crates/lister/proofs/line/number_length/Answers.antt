-- By the powers of ten.
use Rattle.std.proofs.Common.{arith, sym}
use Rattle.fields.specs.Bytes.Numeral.{length-one, length-between}
use Rattle.lister.proofs.line.number_length.Goals as goal

pub returns-in-0-to-9 : goal.returns-in-0-to-9
returns-in-0-to-9 c = sym (length-one c.args.number (omega arith))

pub returns-in-10-to-99 : goal.returns-in-10-to-99
returns-in-10-to-99 c = sym (length-between 1 c.args.number (omega arith) (omega arith))

pub returns-in-100-to-999 : goal.returns-in-100-to-999
returns-in-100-to-999 c = sym (length-between 2 c.args.number (omega arith) (omega arith))

pub returns-in-1000-to-9999 : goal.returns-in-1000-to-9999
returns-in-1000-to-9999 c = sym (length-between 3 c.args.number (omega arith) (omega arith))

pub returns-in_default : goal.returns-in_default
returns-in_default c = sym (length-between 4 c.args.number (omega arith) c.requires)
