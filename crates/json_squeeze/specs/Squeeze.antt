-- A text without the white space outside its strings.
use Rattle.std.specs.Prelude.{ℕ, List, [], ◌∷◌, Bool, ◌||◌, ◌==◌, if◌then◌else◌}

-- white space (RFC 8259, section 2): a space, a tab, a newline, a carriage return
abbrev pub is_space : ℕ → Bool
is_space byte = (byte == 32) || ((byte == 9) || ((byte == 10) || (byte == 13)))

-- Outside strings white space goes. A string begins with a quotation mark, keeps all its bytes, and ends with the
-- next quotation mark that has no backslash of its own before it.
abbrev mutual
  pub squeezed : List ℕ → List ℕ
  squeezed [] = []
  squeezed (byte ∷ bytes) = if byte == 34 then byte ∷ in_string bytes else if is_space byte then squeezed bytes else byte ∷ squeezed bytes

  pub in_string : List ℕ → List ℕ
  in_string [] = []
  in_string (byte ∷ bytes) = if byte == 34 then byte ∷ squeezed bytes else if byte == 92 then byte ∷ escaped bytes else byte ∷ in_string bytes

  -- behind a backslash
  pub escaped : List ℕ → List ℕ
  escaped [] = []
  escaped (byte ∷ bytes) = byte ∷ in_string bytes
