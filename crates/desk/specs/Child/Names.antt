-- The names of a model stand at the places where names begin in its text.
use mathlib.Core.{Path.◌≡◌, Path.sym, Path.ap, Path.◌∙◌, List.[], List.map}
use Rattle.std.specs.Prelude.{ℕ, ◌<◌, T, length, get_or}
use Rattle.std.proofs.Common.{arith}
use Rattle.std.proofs.lemmas.List.{length-map}
use Rattle.std.proofs.Math.ListN.{get_or-append}
use Rattle.fields.specs.Bytes.{Text}
use Rattle.model.specs.{Syntax.Syntax, Syntax.written_names, Fault.Ties.in-places}
use Rattle.model.specs.Fault.{name_at, name_from, Answers, accepted, places}
use Rattle.judge.specs.{Reading.name_place, Reading.no_place, Reading.names_of, Reading.Laws.parts-begin, Reading.Laws.names_are, Reading.Search.mapped_at}
use Rattle.judge.specs.{Reading.Search.in_list}

pub place_in : (x : Text) (i : ℕ) → i < length (places x (length x)) → get_or (names_of x).places i no_place ≡ name_place x (get_or (places x (length x)) i 0)
place_in x i h =
    get_or-append (map (name_place x) (places x (length x))) _ no_place i (rw (length-map (places x (length x)) (name_place x)) h)
    ∙ mapped_at (name_place x) (places x (length x)) i 0 no_place h

module _ (x : Text) (t : Syntax) (a : Answers x (accepted t)) where
  names-placed : map (name_from x) (places x (length x)) ≡ written_names t
  names-placed = sym (parts-begin x) ∙ names_are x t a

  pub names-many : length (places x (length x)) ≡ length (written_names t)
  names-many = sym (length-map (places x (length x)) (name_from x)) ∙ ap length names-placed

  module _ (k : ℕ) (h : k < length (written_names t)) where
    pub begins-at : T (name_at x (get_or (places x (length x)) k 0))
    begins-at = (in-places x (length x) (get_or (places x (length x)) k 0) (in_list (places x (length x)) k 0 (omega (arith, names-many)))).1

    pub name_is : name_from x (get_or (places x (length x)) k 0) ≡ get_or (written_names t) k []
    name_is = sym (mapped_at (name_from x) (places x (length x)) k 0 [] (omega (arith, names-many))) ∙ ap (λ l. get_or l k []) names-placed
