-- The whole text: where the reader starts, and what its answer says.
use mathlib.Core.{Path.◌≡◌, Path.refl, Path.sym, Path.ap, Path.◌∙◌, List.List}
use mathlib.Core.{List.[], List.map, Option.some}
use Rattle.std.specs.Prelude.{ℕ, ◌+◌, ◌<◌, ◌≤◌, min, Ok}
use Rattle.std.proofs.Common.{arith}
use lib.{ListN.length, ListN.take, ListN.replicate, Seq.take-length}
use Rattle.model.specs.{declared.fault.ModelFault.ModelFault, declared.rule.Rule.Rule, Tree.leaf, Tree.group, Tree.marked}
use Rattle.model.proofs.SyntaxComplete.{behind_atom}
use Rattle.model.specs.{Model.model_of, Model.atoms_in, Rule.rule_of, Rule.rule_with, Fault.refused, Fault.accepted, Fault.Answers}
use Rattle.model.proofs.SyntaxComplete.{focus_behind}
use Rattle.model.specs.{Fault.places, Rule.Laws.used-with}
use Rattle.model.proofs.{AcceptLaws.accepted-within}
use Rattle.judge.specs.Answer.{answer-is}
use Rattle.model.specs.declared.fault.ModelFault.TheVariants.{Spelling as Misspelling, TooDeep}
use Rattle.model.specs.declared.rule.Mark.TheVariants.{Plain, Optional, Nonempty}
use Rattle.model.specs.Syntax.{Count, unwritten, between, onward, Syntax, written_names}
use Rattle.model.specs.Syntax.Machine.{atom, run, start, whole, result}
use Rattle.model.proofs.FaultPlaces.{dead-answers, accepted-answers, deep-answers}
use Rattle.model.specs.{Flatten.depth, Depth.rule_depth}
use Rattle.model.proofs.{FlattenDepth.no-higher, DepthLaws.text-depth}
use Rattle.judge.specs.{declared.cursor.Cursor.Cursor, declared.reading.Names.Names}
use Rattle.judge.specs.{declared.reading.Reading.Reading, Packed.node_in, Packed.rule_in, Packed.Fresh}
use Rattle.judge.specs.{Reading.Table.Laws.table_none, Reading.At.next, Reading.Search.parts-named}
use Rattle.judge.specs.Reading.{name_place, names_with, refusal, reading_by, reading, part_at}
use Rattle.judge.specs.Reading.Table.{slots, entry_place, parts_in, Distinct}
use Rattle.judge.specs.declared.table.Entry.{Entry}
use Rattle.std.proofs.lemmas.List.{length-map}
use Rattle.judge.specs.Reading.Laws.{parts-begin, names_are, names-many}
use Rattle.judge.specs.{Packed.seen_in, FirstFault.upper_counts, Row.Tally.Seeing, Row.Tally.Limits.limits-none, Row.Tally.Limits.limits-seeing}
use Rattle.judge.specs.Reading.Walk.{Kept, spots-many, names-tabled, tree_nodes, Behind, Ready}
use Rattle.fields.specs.{Bytes.Text, Limits.max_text, Limits.max_depth, Limits.max_nesting, Limits.max_atoms}
use Rattle.judge.specs.Reading.Whole.{Whole}

abbrev pub start_cursor : Cursor
start_cursor = record { at = 0; nodes = 0; names = 0; height = 0 }

pub start-ready : {x : Text} {work : List ℕ} {names : List Entry} {heads : List ℕ} → Fresh work × (length names ≡ max_atoms) × (heads ≡ replicate slots 0)
    → (length x ≡ 0 → ⊥) → length x ≤ max_text → Ready x work (names, heads) start_cursor max_nesting []
start-ready {x} {names = names} l z s =
    record {
      expecting = record {
        spots = [];
        at_is = record {
          sized = (omega arith, s);
          within = omega arith;
          is = refl;
          clean = λ q h. absurd (let k : q < 0 = h in omega arith);
          names = refl;
        };
        held = rw limits-none (record { whole = l.0.0; behind = l.0.1; few = omega arith; held = refl });
        named = record {
          few = omega arith;
          held = refl;
          table = rw l.2 (table_none names l.1);
        };
        low = refl;
      };
      no_end = λ _. refl;
      room = refl;
    }

-- behind a whole member the text may end
whole-behind : (t : Syntax) → whole (focus_behind t) ≡ some t
whole-behind (marked Optional n) = refl
whole-behind (marked Nonempty n) = refl
whole-behind (marked Plain (group s ts)) = refl
whole-behind (marked Plain (leaf a)) = go a.count
  where
    go : (c : Count) → whole (behind_atom a.name c) ≡ some (marked Plain (atom a.name c))
    go unwritten = refl
    go (between l h) = refl
    go (onward l) = refl

module _ {x : Text} {work : List ℕ} {kept : Kept} {d : Cursor} (b : Behind x work kept 0 [] d) where
  pub more-refused : d.at < length x → Answers x (refused Misspelling d.at)
  more-refused h =
      let a = b.read.at_is in
      dead-answers x d.at a.sized a.clean h (rw a.is tt) (next a h ∙ b.read.settled)

  -- no byte is left
  module _ (h : length x ≤ d.at) where
    tree : Syntax
    tree = b.read.tree

    ends : d.at ≡ length x
    ends = omega (arith, b.read.at_is.within)

    spelt : result (run start x) ≡ some tree
    unfolding tree ends
    spelt = ap result (ap (run start) (sym (ap (λ (m : ℕ). take m x) ends ∙ take-length x)) ∙ b.read.at_is.is) ∙ whole-behind b.read.tree

    shallow-read : depth tree ≤ max_depth → Whole x work kept d
    unfolding tree ends spelt
    shallow-read s =
        let a = b.read.at_is in
        let p : b.spots ≡ places x (length x) = sym a.names ∙ ap (places x) ends in
        record {
          tree = tree;
          answers = accepted-answers x tree a.sized (rw ends at a.clean) spelt s;
          nodes = b.read.held;
          named = rw (← p) b.named;
          tabled = names-tabled a b.named;
        }

    -- no deeper than it is high
    pub low_read : d.height ≤ max_depth → Whole x work kept d
    unfolding tree shallow-read
    low_read f = shallow-read (omega (arith, b.read.high, no-higher tree))

    -- the depth was looked for
    module _ {n : ℕ} (f : n ≡ rule_depth (rule_in work d.nodes)) where
      depth-found : n ≡ min (max_nesting + 1) (depth tree)
      unfolding tree
      depth-found = f ∙ ap (λ l. rule_depth (rule_with l)) b.read.held.held ∙ text-depth tree

      pub depth-read : n ≤ max_depth → Whole x work kept d
      unfolding depth-found shallow-read
      depth-read s = shallow-read (omega (arith, depth-found))

      pub deep-refused : max_depth < n → Answers x (refused TooDeep d.at)
      unfolding depth-found ends spelt tree
      deep-refused s =
          let a = b.read.at_is in
          rw ends (deep-answers x tree a.sized (rw ends at a.clean) spelt (omega (arith, depth-found)))

-- and its reading
pub refused-is : (x : Text) {f : ModelFault} {p : ℕ} → Answers x (refused f p) → refusal f p ≡ reading x
refused-is x {f} {p} a = ap (reading_by x) (answer-is x (refused f p) a)

module _ {x : Text} {work : List ℕ} {kept : Kept} {d : Cursor} (w : Whole x work kept d) where
  pub whole-rule : rule_in work d.nodes ≡ rule_of (model_of w.tree)
  whole-rule = ap rule_with w.nodes.held

  pub whole-count : d.names ≡ atoms_in (map node_in (take d.nodes work))
  whole-count =
      sym (spots-many w.named) ∙ sym (length-map (places x (length x)) (name_place x))
      ∙ names-many x w.tree w.answers ∙ ap atoms_in (used-with (tree_nodes w.tree) ∙ sym w.nodes.held)

  -- no child is seen yet
  pub whole-limited : Seeing (upper_counts (map node_in (take d.nodes work))) [] (seen_in work)
  unfolding whole-count
  whole-limited =
      let e : d.names ≡ atoms_in (tree_nodes w.tree) = whole-count ∙ ap atoms_in w.nodes.held in
      rw (w.nodes.behind, w.nodes.held) (limits-seeing (tree_nodes w.tree) (omega (arith, e, w.tabled.few)))

  pub whole-names : parts_in x kept.0 d.names ≡ written_names w.tree
  whole-names =
      ap (map (part_at x)) w.named.held ∙ parts-named x (places x (length x)) ∙ sym (parts-begin x) ∙ names_are x w.tree w.answers

  pub whole_apart : Distinct (parts_in x kept.0 d.names)
  whole_apart = rw whole-names (accepted-within x w.tree w.answers).apart

  pub reading-is : {r : Rule} {n : Names} → r ≡ rule_in work d.nodes → n ≡ names_with (map entry_place (take d.names kept.0))
      → ◌≡◌ {A = Reading} (record { outcome = Ok tt; rule = r; names = n }) (reading x)
  reading-is e f =
      rw (e ∙ whole-rule, f ∙ ap names_with w.named.held) (ap (reading_by x) (answer-is x (accepted w.tree) w.answers))
