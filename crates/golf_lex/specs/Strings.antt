-- The bytes for which a string stands.
use Rattle.std.specs.Prelude.{ℕ, Bool, true, false, nat_eq, cond, List, [], ◌∷◌}

-- the byte for which a byte after a backslash stands
abbrev pub escaped_byte : ℕ → ℕ
escaped_byte b = cond (nat_eq b 110) 10 (cond (nat_eq b 116) 9 b)

-- the bytes for which these bytes stand, after a backslash or not; quotes stand for none
abbrev pub content_from : Bool → List ℕ → List ℕ
content_from escaped [] = []
content_from true (b ∷ bs) = escaped_byte b ∷ content_from false bs
content_from false (b ∷ bs) = cond (nat_eq b 92) (content_from true bs)
    (cond (nat_eq b 34) (content_from false bs) (b ∷ content_from false bs))
