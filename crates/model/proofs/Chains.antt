-- What recursions of specs/ find, as chains of iterators find it.
use Rattle.std.specs.Prelude.{◌≡◌, refl, List, [], ◌∷◌, ◌++◌, reverse, ◌==◌, ℕ, ◌+◌, cond, count_by}
use Rattle.std.specs.List.{list_any, fold}
use Rattle.std.proofs.Common.{sym, ◌∙◌}
use Rattle.std.proofs.lemmas.{Grind.reverse_onto, List.Sums.fold-append, List.Sums.sum_by-cons}
use Rattle.model.specs.declared.rule.{Node.Node, Kind.Kind}
use Rattle.model.specs.declared.rule.Kind.TheVariants.{Atom, Group}
use Rattle.model.specs.Model.{is_atom, atoms_in}
use Rattle.model.specs.{declared.rule.Sign.Sign, declared.depth.Flat.Flat, Depth.nil_flat, Depth.beside_by, Depth.gathered_by, Depth.some_empty}

pub some_empty_is : (l : List Flat) → some_empty l ≡ list_any (λ x. x.empty) l
some_empty_is [] = refl
some_empty_is (x ∷ l) = rw (some_empty_is l)

pub gathered_is : (s : Sign) (l : List Flat) → gathered_by s l ≡ fold (λ y x. beside_by s x y) nil_flat (reverse l)
gathered_is s [] = refl
gathered_is s (x ∷ l) =
    let e : reverse (x ∷ l) ≡ reverse l ++ (x ∷ []) = reverse_onto l x [] in
    rw (e, fold-append, ← gathered_is s l)

pub atoms_is : (l : List Node) → atoms_in l ≡ count_by (λ x. is_atom x.kind == 1) l
atoms_is [] = refl
atoms_is (x ∷ l) = rw (atoms_is l) (next x.kind (count_by (λ y. is_atom y.kind == 1) l) ∙ sym (sum_by-cons (λ y. cond (is_atom y.kind == 1) 1 0) x l))
  where
    next : (κ : Kind) (n : ℕ) → is_atom κ + n ≡ cond (is_atom κ == 1) 1 0 + n
    next (Atom lo hi) n = refl
    next (Group s m) n = refl
