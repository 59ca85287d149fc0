-- What the code keeps of a tidied tree and of a group's members, step by step.
use mathlib.Core.{Path.◌≡◌, Bool.Bool, Bool.true, Bool.false, Bool.cond, Bool.◌&&◌, Bool.◌||◌, List.List}
use Prim.Native.{Nat.ℕ, Nat.◌+◌, Nat.◌-◌, Nat.◌≤◌, Nat.◌<◌, Char.code}
use lib.{Dec.eqb, Dec.ltb, ListN.length, ListN.set}
use Rattle.fields.specs.{Bytes.Text, Limits.max_nodes}
use Rattle.model.specs.{declared.rule.Mark.Mark, Mark.mark_at, Tree.is_plain, Syntax.mark_text, Fault.name_from, Fault.is}
use Rattle.model.specs.declared.rule.Mark.TheVariants.{Plain, Optional, Nonempty}
use Rattle.model.specs.declared.rule.Sign.{Sign, TheVariants.None, TheVariants.Sequence, TheVariants.Choice, TheVariants.Interleaving}
use Rattle.model.specs.Flatten.{is_choice}
use Rattle.canonical.specs.declared.head.Shape.TheVariants.{Atom, Group}
use Rattle.canonical.specs.Writer.Head.{is_group, is_nothing}
use Rattle.canonical.specs.{declared.tidy.Tidied.Tidied, declared.tidy.Gathered.Gathered, declared.head.Head.Head, Order.not_after}
use Rattle.canonical.specs.{Tidy.nullable_under, Tidy.fitting, Writer.Place.atom_end, Writer.Place.zero_at}

abbrev pub head_under : Mark → Head → Head
head_under m h = record { shape = h.shape; mark = m; nullable = h.nullable; members = h.members; size = h.size; least = h.least }

abbrev pub remarked_by : Mark → Tidied → Tidied
remarked_by m t = record { head = head_under m t.head; top = t.top; next = t.next }

-- at another place of the stack and of the text
abbrev pub placed_at : ℕ → ℕ → Tidied → Tidied
placed_at top next t = record { head = t.head; top = top; next = next }

-- `marking` and `stripped`
abbrev pub marking_by : Mark → Tidied → Tidied
marking_by m t = cond (is_plain m || is_nothing t.head.shape) t (remarked_by (fitting m t.head.nullable) t)

abbrev pub stripped_by : Sign → Tidied → Tidied
stripped_by sign t = cond (is_choice sign) (marking_by Nonempty t) t

-- the count from n to e begins with 0
abbrev pub zero_between : Text → ℕ → ℕ → Bool
zero_between x n e = ltb (n + 1) e && is x (code "0") (n + 1)

abbrev pub count_mark : Bool → Mark
count_mark zero = cond zero Optional Plain

abbrev pub atom_head : Text → ℕ → Head
atom_head x p = record { shape = Atom; mark = count_mark (zero_at x p); nullable = false; members = 0; size = 1; least = p }

abbrev pub atom_by : Text → ℕ → ℕ → Tidied
atom_by x p top = record { head = atom_head x p; top = top; next = atom_end x p }

abbrev pub nothing_head : Head
nothing_head = record { shape = Group None; mark = Plain; nullable = true; members = 0; size = 1; least = 0 }

abbrev pub nothing_by : ℕ → ℕ → Tidied
nothing_by top next = record { head = nothing_head; top = top; next = next }

abbrev pub no_members : ℕ → Gathered
no_members top =
    record { last = nothing_by top 0; given = false; members = 0; nullable = true; size = 0; least = 0; top = top }

-- the empty row is held
abbrev pub holds_empty : Tidied → Bool
holds_empty t = nullable_under t.head.mark t.head.nullable

abbrev pub noted_by : Tidied → Gathered → Gathered
noted_by t g =
    record {
      last = g.last;
      given = g.given || holds_empty t;
      members = g.members;
      nullable = g.nullable;
      size = g.size;
      least = g.least;
      top = g.top;
    }

abbrev pub smaller_by : Text → ℕ → ℕ → ℕ
smaller_by x a b = cond (not_after (name_from x a) (name_from x b)) a b

abbrev pub joins_by : Sign → Tidied → Bool
joins_by sign t = is_group sign t.head.shape && is_plain t.head.mark

-- of a choice one member has to hold the empty row, of another group each
abbrev pub both_by : Sign → Bool → Bool → Bool
both_by sign a b = cond (is_choice sign) (a || b) (a && b)

abbrev pub nullable_by : ℕ → Sign → Bool → Bool → Bool
nullable_by members sign a b = cond (eqb members 0) b (both_by sign a b)

abbrev pub least_by : Text → ℕ → ℕ → ℕ → ℕ
least_by x members p q = cond (eqb members 0) q (smaller_by x p q)

abbrev pub added_by : Text → Gathered → Sign → Tidied → Gathered
added_by x g sign t =
    cond (is_nothing t.head.shape) g
    (record {
      last = t;
      given = g.given;
      members = cond (joins_by sign t) (g.members + t.head.members) (g.members + 1);
      nullable = nullable_by g.members sign g.nullable (holds_empty t);
      size = cond (joins_by sign t) (g.size + (t.head.size - 1)) (g.size + t.head.size);
      least = least_by x g.members g.least t.head.least;
      top = cond (joins_by sign t) t.top (t.top - 1);
    })

-- the head of a member that stays stands on top of its members
abbrev pub stacked_by : List Head → Sign → Tidied → List Head
stacked_by stack sign t = cond (is_nothing t.head.shape || joins_by sign t) stack (set stack (t.top - 1) t.head)

-- what the step needs: room, and names inside the text
pub record FitsOn (x : Text) (stack : List Head) (g : Gathered) (t : Tidied) : Type 0 where
  pub entries : length stack ≡ max_nodes
  pub room : (0 < t.top) × (t.top ≤ max_nodes)
  pub few : (g.size + t.head.size ≤ max_nodes) × (g.members + t.head.members < max_nodes)
  pub some : 0 < t.head.size
  pub inside : (g.least ≤ length x) × (t.head.least ≤ length x)

abbrev pub group_head : Gathered → Sign → Head
group_head g sign = record { shape = Group sign; mark = Plain; nullable = g.nullable; members = g.members; size = g.size + 1; least = g.least }

abbrev pub grouped_by : Gathered → Sign → ℕ → Tidied
grouped_by g sign next =
    cond (eqb g.members 0) (nothing_by g.top next)
    (cond (eqb g.members 1) (placed_at (g.top + 1) next g.last)
    (record { head = group_head g sign; top = g.top; next = next }))

-- a choice of which a member held the empty row gets a `?`
abbrev pub given_mark : Gathered → Sign → Mark
given_mark g sign = cond (is_choice sign && g.given) Optional Plain

abbrev pub group_closed_by : Gathered → Sign → ℕ → Tidied
group_closed_by g sign next = marking_by (given_mark g sign) (grouped_by g sign next)

-- by the byte behind the tree
abbrev pub marked_by : Text → Tidied → Tidied
marked_by x t =
    let m = mark_at x t.next in
    placed_at t.top (t.next + length (mark_text m)) (marking_by m t)

-- by the byte behind a member, which is a sign or the group's end
abbrev pub sign_after : Sign → ℕ → Sign
sign_after sign b = cond (eqb b (code ",")) Sequence (cond (eqb b (code "|")) Choice (cond (eqb b (code "&")) Interleaving sign))

abbrev pub member_after : ℕ → ℕ → ℕ
member_after next b = cond (eqb b (code ")")) next (next + 1)
