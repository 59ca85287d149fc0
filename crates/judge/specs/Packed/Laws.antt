-- Nodes, and what is seen of the names behind them, in one array.
use Rattle.std.specs.Prelude.{◌≡◌, ℕ, ◌+◌, ◌≤◌, List, map, take, slice_index, slice_set}
use Rattle.std.proofs.Common.{sym, ◌∙◌, arith, length-set, take-take, get_or-drop}
use Rattle.std.proofs.Math.Path.{ap}
use Rattle.std.proofs.lemmas.List.{take-set-le, drop-set-add}
use Rattle.fields.specs.Limits.{max_nodes}
use Rattle.judge.specs.Packed.{node_in, seen_in, SameNodes}

-- the number of a name, read and stored
pub seen_at : (words : List ℕ) (k : ℕ) → slice_index (seen_in words) k ≡ slice_index words (max_nodes + k)
seen_at words k = get_or-drop max_nodes words k 0

pub seen-set : (words : List ℕ) (k v : ℕ) → seen_in (slice_set words (max_nodes + k) v) ≡ slice_set (seen_in words) k v
seen-set words k v = drop-set-add max_nodes words k v

module _ (words words' : List ℕ) (s : SameNodes words words') where
  pub same_set : (k v : ℕ) → SameNodes words (slice_set words' (max_nodes + k) v)
  same_set k v = (take-set-le max_nodes words' (max_nodes + k) v (omega arith) ∙ s.0, length-set words' (max_nodes + k) v ∙ s.1)

  -- the first nodes, and one of them
  pub same_first : (n : ℕ) → n ≤ max_nodes → take n words' ≡ take n words
  same_first n h = sym (take-take n max_nodes words' h) ∙ ap (λ l. take n l) s.0 ∙ take-take n max_nodes words h

  pub same_nodes : (n : ℕ) → n ≤ max_nodes → map node_in (take n words') ≡ map node_in (take n words)
  unfolding same_first
  same_nodes n h = ap (map node_in) (same_first n h)
