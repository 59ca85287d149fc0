-- What the pass over the nodes computes of a type beside its attribute: which of its names may come next. `ahead_by` is the same over a model.
pub mod Laws
use Rattle.std.specs.Prelude.{ℕ, suc, Bool, cond, not, ◌&&◌, List}
use lib.{Dec.leb, Dec.ltb, Bits.bit_or, ListN.get_or}
use Rattle.model.specs.{declared.rule.Upper.Upper, declared.rule.Mark.Mark, declared.rule.Kind.Kind, declared.rule.Rule.Rule, Membership.under}
use Rattle.model.specs.{Rule.used, Types.Operator, Types.sequence, Types.choice, Types.interleaving, Types.Ty, Types.ε, Types.atom, Types.join}
use Rattle.model.specs.Types.{nonempty}
use Rattle.model.specs.declared.rule.Kind.TheVariants.{Atom, Group}
use Rattle.model.specs.Model.{Algebra, operator, eval}
use Rattle.judge.specs.{declared.tally.Seen.Seen, declared.ahead.Ahead.Ahead, Row.Joined.joined_all, Next.Set.single}
use Rattle.judge.specs.Row.Attribute.{empty_attribute, atom_attribute, pair_attribute, nonempty_attribute, counted_attribute, marked_attribute}

-- Of a join: t tells whether the row has names of its second member, y' whether that can be made longer; names of the first member may then come.
abbrev pub first_open : Operator → Bool → Bool → Bool
first_open sequence t y' = not t
first_open choice t y' = not t
first_open interleaving t y' = y'

-- And of the second: b tells whether no name of the first stands behind one of it, s whether the row has names of the first, x and x' whether that is
-- done and can be made longer.
abbrev pub second_open : Operator → Bool → Bool → Bool → Bool → Bool
second_open sequence b s x x' = b && x
second_open choice b s x x' = not s
second_open interleaving b s x x' = x'

abbrev pub pair_ahead : Operator → Ahead → Ahead → Ahead
pair_ahead o x y =
    let p = x.part in
    let q = y.part in
    record {
      part = pair_attribute o p q;
      next =
          bit_or (cond (first_open o (ltb 0 q.behind) q.alive) x.next 0)
          (cond (second_open o (leb p.behind q.first) (ltb 0 p.behind) p.done p.alive) y.next 0);
    }

-- the name a may come while its count is below the upper end
abbrev pub atom_next : ℕ → Upper → Seen → ℕ
atom_next a k x = cond (under (suc x.count) k) (single a) 0

abbrev pub empty_ahead : ℕ → Ahead
empty_ahead n = record { part = empty_attribute n; next = 0 }

-- of a row's length and what is seen of each name
unfoldable pub ahead : ℕ → (ℕ → Seen) → Ty → Ahead
ahead n s ε = empty_ahead n
ahead n s (atom a m k) = record { part = atom_attribute m (s a); next = atom_next a k (s a) }
ahead n s (join o A B) = pair_ahead o (ahead n s A) (ahead n s B)
ahead n s (nonempty A) = let x = ahead n s A in record { part = nonempty_attribute x.part; next = x.next }

-- over a model: a mark forbids no name
module _ (n : ℕ) where
  abbrev pub joined_ahead : Operator → List Ahead → Ahead
  joined_ahead o l = joined_all (pair_ahead o) (empty_ahead n) l

  abbrev pub counted_ahead : ℕ → ℕ → Upper → Seen → Ahead
  counted_ahead a lo hi x = record { part = counted_attribute n lo x; next = atom_next a hi x }

  abbrev pub marked_ahead : Mark → Ahead → Ahead
  marked_ahead m x = record { part = marked_attribute n m x.part; next = x.next }

  abbrev pub ahead_by : (ℕ → Seen) → Algebra Ahead
  ahead_by s =
      record {
        on_atom = λ a lo hi. counted_ahead a lo hi (s a);
        on_group = λ a sign l. joined_ahead (operator sign) l;
        on_mark = marked_ahead;
      }

-- of an atom, by its name's number and what is seen of it, or of a group, by some first of its members
unfoldable pub part_ahead : ℕ → Kind → ℕ → Seen → List Ahead → Ahead
part_ahead n (Atom lo hi) a x l = counted_ahead n a lo hi x
part_ahead n (Group s m) a x l = joined_ahead n (operator s) l

-- a member more, which may be the first
unfoldable pub grown_ahead : Kind → Bool → Ahead → Ahead → Ahead
grown_ahead (Atom lo hi) b x y = x
grown_ahead (Group s m) b x y = cond b y (pair_ahead (operator s) x y)

-- of the first node of a rule, in a row of n children
abbrev pub root_ahead : Rule → ℕ → (ℕ → Seen) → Ahead
root_ahead r n s = get_or (eval (ahead_by n s) (used r) 1) 0 (empty_ahead n)
