-- Quoted text as the list of its bytes, for texts of ASCII: a character is one byte, its code.
-- Assumes nothing.
use Rattle.std.specs.Prelude.{List, [] as nil, ◌∷◌ as ◌then◌, ℕ}
use Prim.Native.Char.{code}
use Prim.Native.String.{String, [], ◌∷◌}

abbrev pub octets : String → List ℕ
octets [] = nil
octets (c ∷ s) = ◌then◌ (code c) (octets s)
