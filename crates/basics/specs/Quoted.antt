-- Quoted text.
--     bytes     the bytes of a quoted text, `\n` the line end
use Rattle.std.specs.Prelude.{ℕ, List, [], ◌∷◌}
use Prim.Native.String.{String}
use Prim.Native.String as Quoted
use Prim.Native.Char.{code}

abbrev pub bytes : String → List ℕ
bytes Quoted.[] = []
bytes (Quoted.◌∷◌ c s) = code c ∷ bytes s
