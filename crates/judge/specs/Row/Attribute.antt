-- What the second pass over a row computes of a type, from what the first has seen of each name: its span, whether its part of the row is held,
-- and whether that can be extended. `attribute_by` is the same over a model.
use mathlib.Core.{Path.◌≡◌, Path.refl, Bool.Bool, Bool.true, Bool.false, Bool.◌&&◌, Bool.and-true, List.List, List.[], List.◌∷◌, List.map}
use Rattle.std.specs.Prelude.{ℕ, zero, suc, ◌+◌, ◌*◌, ◌/◌, ◌%◌, ◌<◌, ◌≤◌, min, max}
use Rattle.std.proofs.Common.{arith}
use lib.{Dec.leb, Dec.ltb, Dec.eqb, ListN.length}
use Rattle.std.specs.Int.{from_bool}
use Rattle.model.specs.{declared.rule.Upper.Upper, declared.rule.Sign.Sign, declared.rule.Mark.Mark, Word.Word, Word.only, Word.count, Word.touched}
use Rattle.model.specs.declared.rule.Mark.TheVariants.{Plain, Optional, Nonempty}
use Rattle.model.proofs.WordSpan.{first_place, last_behind, first-untouched, behind-untouched, touched-behind, ordered-span, first_either, behind-either}
use Rattle.model.specs.Types.{Operator, choice, Ty, ε, atom, join, nonempty, symbols, ConflictFree}
use Rattle.model.specs.Membership.{under, joined, begun, done, alive}
use Rattle.model.specs.Model.{Algebra, operator, type_by}
use Rattle.judge.specs.{declared.tally.Seen.Seen, declared.attribute.Attribute.Attribute, Row.Joined.joined_all, Row.Joined.carried}

-- An attribute in one number: two numbers of 16 bits, and a bit for each test.
abbrev pub done_bit : ℕ
done_bit = 4294967296

abbrev pub alive_bit : ℕ
alive_bit = 8589934592

unfoldable pub attribute_in : ℕ → Attribute
attribute_in w =
    record { first = w % 65536; behind = w / 65536 % 65536; done = eqb (w / done_bit % 2) 1; alive = eqb (w / alive_bit % 2) 1 }

abbrev pub attribute_word : Attribute → ℕ
attribute_word x = x.first + x.behind * 65536 + from_bool x.done * done_bit + from_bool x.alive * alive_bit

pub unpack-attribute : (x : Attribute) → x.first < 65536 → x.behind < 65536 → attribute_in (attribute_word x) ≡ x
unfolding attribute_in
unpack-attribute x h k =
    let d = read_back x.done in
    let a = read_back x.alive in
    let p = parts (from_bool x.done) (from_bool x.alive) d.0 a.0 in
    rw (p.0, p.1, p.2, p.3, d.1, a.1)
  where
    read_back : (b : Bool) → (from_bool b ≤ 1) × (eqb (from_bool b) 1 ≡ b)
    read_back true = (omega arith, refl)
    read_back false = (omega arith, refl)

    parts : (d a : ℕ) → d ≤ 1 → a ≤ 1 → let w = x.first + x.behind * 65536 + d * done_bit + a * alive_bit in
        (w % 65536 ≡ x.first) × (w / 65536 % 65536 ≡ x.behind) × (w / done_bit % 2 ≡ d) × (w / alive_bit % 2 ≡ a)
    parts d a i j = (omega arith, omega arith, omega arith, omega arith)

abbrev pub empty_attribute : ℕ → Attribute
empty_attribute n = record { first = n; behind = 0; done = true; alive = true }

-- of a name that is not seen too often
abbrev pub atom_attribute : ℕ → Seen → Attribute
atom_attribute m x = record { first = x.first; behind = x.behind; done = leb m x.count; alive = true }

abbrev pub pair_attribute : Operator → Attribute → Attribute → Attribute
pair_attribute o x y =
    record {
      first = min x.first y.first;
      behind = max x.behind y.behind;
      done = joined o (leb x.behind y.first) (ltb 0 x.behind) (ltb 0 y.behind) x.done y.done;
      alive = begun o (leb x.behind y.first) (ltb 0 x.behind) (ltb 0 y.behind) x.done x.alive y.alive;
    }

-- of T!: not done while the row has none of its symbols
abbrev pub nonempty_attribute : Attribute → Attribute
nonempty_attribute x = record { first = x.first; behind = x.behind; done = ltb 0 x.behind && x.done; alive = x.alive }

-- of a row's length and what is seen of each name
unfoldable pub attribute : ℕ → (ℕ → Seen) → Ty → Attribute
attribute n s ε = empty_attribute n
attribute n s (atom a m k) = atom_attribute m (s a)
attribute n s (join o A B) = pair_attribute o (attribute n s A) (attribute n s B)
attribute n s (nonempty A) = nonempty_attribute (attribute n s A)

-- of the row itself
unfoldable pub seen : Word → ℕ → Seen
seen w a = record { count = count a w; first = first_place (only a) w; behind = last_behind (only a) w }

unfoldable pub attribute_of : Ty → Word → Attribute
attribute_of A w = record { first = first_place (symbols A) w; behind = last_behind (symbols A) w; done = done A w; alive = alive A w }

untouched-ε : (w : Word) → touched (symbols ε) w ≡ false
unfolding touched
untouched-ε [] = refl
untouched-ε (x ∷ w) = untouched-ε w

-- no name stands in the row more often than its atom's upper count allows: what the first pass has tested
abbrev pub CountsWithin : Ty → Word → Type 0
CountsWithin ε w = Unit {0}
CountsWithin (atom a m n) w = under (count a w) n ≡ true
CountsWithin (join o A B) w = CountsWithin A w × CountsWithin B w
CountsWithin (nonempty A) w = CountsWithin A w

pub attribute-is : (A : Ty) → ConflictFree A → (w : Word) → CountsWithin A w → attribute (length w) (seen w) A ≡ attribute_of A w
unfolding attribute attribute_of seen done alive
attribute-is ε g w h = rw (first-untouched (symbols ε) w (untouched-ε w), behind-untouched (symbols ε) w (untouched-ε w))
attribute-is (atom a m n) g w h = rw (h, and-true)
attribute-is (join o A B) g w h =
    rw (
      attribute-is A g.1 w h.0,
      attribute-is B g.2 w h.1,
      first_either (symbols A) (symbols B) w,
      behind-either (symbols A) (symbols B) w,
      ordered-span (symbols A) (symbols B) g.0 w,
      touched-behind (symbols A) w,
      touched-behind (symbols B) w,
    )
attribute-is (nonempty A) g w h = rw (attribute-is A g.1 w h, touched-behind (symbols A) w)

-- the attributes of a model's nodes, each as the type of that node has it
module _ (n : ℕ) where
  abbrev pub counted_attribute : ℕ → Seen → Attribute
  counted_attribute zero x = pair_attribute choice (empty_attribute n) (atom_attribute 1 x)
  counted_attribute (suc m) x = atom_attribute (suc m) x

  abbrev pub joined_attribute : Operator → List Attribute → Attribute
  joined_attribute o l = joined_all (pair_attribute o) (empty_attribute n) l

  abbrev pub marked_attribute : Mark → Attribute → Attribute
  marked_attribute Plain x = x
  marked_attribute Optional x = pair_attribute choice (empty_attribute n) x
  marked_attribute Nonempty x = nonempty_attribute x

  abbrev pub attribute_by : (ℕ → Seen) → Algebra Attribute
  attribute_by s =
      record {
        on_atom = λ a lo hi. counted_attribute lo (s a);
        on_group = λ a sign l. joined_attribute (operator sign) l;
        on_mark = marked_attribute;
      }

-- `attribute n s` carries `type_by` into `attribute_by n s`
module _ (n : ℕ) (s : ℕ → Seen) where
  pub attribute-atom : (a lo : ℕ) (hi : Upper) → attribute n s (type_by.on_atom a lo hi) ≡ (attribute_by n s).on_atom a lo hi
  unfolding attribute
  attribute-atom a zero hi = refl
  attribute-atom a (suc lo) hi = refl

  pub attribute-group : (a : ℕ) (sign : Sign) (l : List Ty)
      → attribute n s (type_by.on_group a sign l) ≡ (attribute_by n s).on_group a sign (map (attribute n s) l)
  unfolding attribute
  attribute-group a sign l = carried (attribute n s) pair_attribute (λ o B C. refl) (empty_attribute n) refl (operator sign) l

  pub attribute-mark : (m : Mark) (A : Ty) → attribute n s (type_by.on_mark m A) ≡ (attribute_by n s).on_mark m (attribute n s A)
  unfolding attribute
  attribute-mark Plain A = refl
  attribute-mark Optional A = refl
  attribute-mark Nonempty A = refl
