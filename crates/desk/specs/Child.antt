-- Where the name of a child stands: document 01, "Desk and layers". Child k counts from 1.
pub mod Names
pub mod Laws
pub mod Code
use mathlib.Core.{Path.◌≡◌, List.List, List.[], List.◌∷◌}
use Rattle.std.specs.Prelude.{ℕ, zero, suc, ◌+◌, ◌-◌}
use lib.{Dec.T, ListN.length, ListN.take, ListN.drop, ListN.get_or}
use mir.Mem.{Loc}
use Rattle.fields.specs.Bytes.{Text}
use Rattle.model.specs.{Syntax.Syntax, Syntax.written_names, Syntax.number_in, Fault.name_at, Fault.name_from, Fault.places}
use Rattle.desk.specs.Desk.{reply_number}
use Rattle.judge.specs.Reply.{children_in, child, Reply, model_refused, children_refused, good, Replies, reply}

-- a part of one of the two texts: its first place and its length
pub data Part : Type 0 where
  of_model of_children : ℕ → ℕ → Part

abbrev pub child_name : Text → ℕ → Text
child_name c k = get_or (children_in c) (k - 1) []

-- where the k-th of these begins, counted from 0: behind the earlier ones, each with its tab
abbrev pub start_in : List Text → ℕ → ℕ
start_in [] k = 0
start_in (p ∷ ps) zero = 0
start_in (p ∷ ps) (suc k) = suc (length p) + start_in ps k

-- a name of the model stands in the model text, a foreign one in the children text
abbrev pub PartStands : Text → Text → ℕ → Syntax → Part → Type 0
PartStands m c k t (of_model p n) = T (name_at m p) × (name_from m p ≡ child_name c k) × (n ≡ length (child_name c k))
PartStands m c k t (of_children p n) =
    (number_in (written_names t) (child_name c k) ≡ 0) × (p ≡ start_in (children_in c) (k - 1)) × (n ≡ length (child_name c k))

-- r is the reply to m, c and k (`Child.Laws.finds-exactly`: there is one, and only one)
abbrev pub Finds : Text → Text → ℕ → Reply Part → Type 0
Finds m c k = Replies (child k) (PartStands m c k) m c

-- the same as a function
abbrev pub part_by : Text → Text → ℕ → ℕ → Part
part_by m c k zero = of_children (start_in (children_in c) (k - 1)) (length (child_name c k))
part_by m c k (suc n) = of_model (get_or (places m (length m)) n 0) (length (child_name c k))

abbrev pub part_in : Text → Text → ℕ → Syntax → Part
part_in m c k t = part_by m c k (number_in (written_names t) (child_name c k))

unfoldable pub found : Text → Text → ℕ → Reply Part
found m c k = reply (child k) (part_in m c k) m c

-- the number of the refusal, 37 included; 0 where nothing is refused
abbrev pub child_refusal : Text → Text → ℕ → ℕ
child_refusal m c k = reply_number (λ p. 0) (found m c k)

-- on a refusal, the empty part at the beginning of the children text
abbrev pub part_of : Reply Part → Part
part_of (model_refused f) = of_children 0 0
part_of (children_refused f) = of_children 0 0
part_of (good p) = p

abbrev pub child_part : Text → Text → ℕ → Part
child_part m c k = part_of (found m c k)

-- of the model text or of the children text, whichever the part belongs to
abbrev pub text_of : {A : Type 0} → Part → A → A → A
text_of (of_model p n) m c = m
text_of (of_children p n) m c = c

abbrev pub start_of : Part → ℕ
start_of (of_model p n) = p
start_of (of_children p n) = p

abbrev pub length_of : Part → ℕ
length_of (of_model p n) = n
length_of (of_children p n) = n

-- its bytes
abbrev pub bytes_of : Part → Text → Text → Text
bytes_of p m c = take (length_of p) (drop (start_of p) (text_of p m c))

-- what `child` hands back of the texts m and c, which stand at these places: it is of the text that the part of child k belongs to, begins where
-- that part begins, and has its bytes
pub record Hands (m c : Text) (k : ℕ) (model children : Loc) (bytes : Text) (place : Loc) : Type 0 where
  pub text_is : place.0 ≡ text_of (child_part m c k) model.0 children.0
  pub start_is : place.1 ≡ text_of (child_part m c k) model.1 children.1 + start_of (child_part m c k)
  pub bytes_are : bytes ≡ bytes_of (child_part m c k) m c
