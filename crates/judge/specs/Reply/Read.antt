-- What is read of a model text and of a children text. The laws are in proofs/ReplyRead.antt.
use mathlib.Core.{Path.◌≡◌, Bool.cond, List.List, List.map}
use Rattle.std.specs.Prelude.{ℕ, Result, Ok, Err}
use lib.{Dec.ltb, ListN.length, ListN.take}
use Rattle.fields.specs.{Bytes.Text, Limits.max_file, declared.fault.CueFault.CueFault}
use Rattle.fields.specs.{declared.fault.CueFault.TheVariants.LongFile, Children.children_of}
use Rattle.model.specs.{declared.fault.ModelFault.ModelFault}
use Rattle.model.specs.{Syntax.Syntax}
use Rattle.model.specs.{Syntax.written_names, Fault.Answers, Fault.refused, Fault.accepted, Model.model_of}
use Rattle.model.specs.{Model.encode, Model.atoms_in, Rule.ReadsInto}
use Rattle.judge.specs.declared.{packed.Sizes.Sizes, reply.ChildrenRow.ChildrenRow, reply.TextMisread.TextMisread}
use Rattle.judge.specs.Packed.{node_in, rule_in, Sized}
use Rattle.judge.specs.{Row.Tally.Tallied}
use Rattle.judge.specs.declared.reply.ChildrenRow.TheVariants.{Whole, Faulty}
use Rattle.judge.specs.declared.reply.TextMisread.TheVariants.{Model as MisreadModel, Children as MisreadChildren}
use Rattle.judge.specs.declared.fault.TextFault.{TextFault, TheVariants.Model as BadModel, TheVariants.Children as BadChildren}
use Rattle.std.specs.Prelude.{Some, None}
use Rattle.judge.specs.FirstFault.{upper_counts, first_fault}
use Rattle.judge.specs.Reply.{children_in, row_in}

-- how many children a text has, or what is wrong with it
abbrev pub text_children : Text → Result ℕ CueFault
text_children c = cond (ltb max_file (length c)) (Err LongFile) (children_of (children_in c))

-- Both texts were read, and no child is at fault: the words hold the nodes of m's rule, and s tells what is seen of each name in the row of c's children.
pub record BothRead (m c : Text) (words s : List ℕ) (r : Sizes) : Type 0 where
  pub model : ReadsInto m (rule_in words r.nodes)
  pub sized : Sized words r
  pub written : r.names ≡ length (written_names model.tree)
  pub children : text_children c ≡ Ok r.children
  pub long : length (row_in model.tree c) ≡ r.children
  pub sound : first_fault (upper_counts (map node_in (take r.nodes words))) (row_in model.tree c) ≡ None
  pub tallied : Tallied (row_in model.tree c) s

-- both texts were read, and the child at place p is the first at fault
pub record FaultRead (m c : Text) (p : ℕ) : Type 0 where
  pub tree : Syntax
  pub answers : Answers m (accepted tree)
  pub written : atoms_in (encode (model_of tree)) ≡ length (written_names tree)
  pub children : (n : ℕ) × (text_children c ≡ Ok n)
  pub fault : first_fault (upper_counts (encode (model_of tree))) (row_in tree c) ≡ Some p

abbrev pub TextsAnswer : Type 0
TextsAnswer = Result ChildrenRow TextMisread

pub data TextsRead (m c : Text) (words s : List ℕ) : TextsAnswer → Type 0 where
  both_read : {r : Sizes} → BothRead m c words s r → TextsRead m c words s (Ok (Whole r))
  fault_read : {p : ℕ} → FaultRead m c p → TextsRead m c words s (Ok (Faulty p))
  refused_model : {f : ModelFault} {p : ℕ} → Answers m (refused f p) → TextsRead m c words s (Err (MisreadModel (record { fault = f; place = p })))
  refused_children : {f : CueFault} (t : Syntax) → Answers m (accepted t) → text_children c ≡ Err f
      → TextsRead m c words s (Err (MisreadChildren f))

-- the refusal without its place
abbrev pub text_fault : TextMisread → TextFault
text_fault (MisreadModel e) = BadModel e.fault
text_fault (MisreadChildren f) = BadChildren f
