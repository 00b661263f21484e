-- Slices that are hashed in a row. Assumes nothing.
use Rattle.std.specs.Borrow.{Bor}
use Rattle.std.specs.Prelude.{List, [], ◌∷◌, ◌++◌, ℕ}

-- the bytes of the parts, one part after the other
abbrev pub joined : List (Bor (List ℕ)) → List ℕ
joined [] = []
joined (part ∷ []) = part.now
joined (part ∷ next ∷ parts) = part.now ++ joined (next ∷ parts)
