-- The length of the texts of trees on the stack.
pub mod Laws
use mathlib.Core.{Path.◌≡◌, List.List}
use Rattle.std.specs.Prelude.{ℕ, suc, ◌≤◌, length, drop}
use Rattle.fields.specs.{Bytes.Text, Limits.max_text, Limits.max_nodes}
use Rattle.model.specs.Syntax.{Syntax, text}
use Rattle.canonical.specs.declared.head.Head.{Head}
use Rattle.canonical.specs.Writer.Stack.{HeadsFit, Skip.sum}

-- each with one byte behind it
abbrev pub signed_text : Syntax → ℕ
signed_text t = suc (length (text t))

abbrev pub signed_length : List Syntax → ℕ
signed_length l = sum signed_text l

pub record LengthReady (x : Text) (stack : List Head) (top : ℕ) : Type 0 where
  pub short : length x ≤ max_text
  pub entries : length stack ≡ max_nodes
  pub inside : top ≤ max_nodes
  pub heads : HeadsFit x (drop top stack)
