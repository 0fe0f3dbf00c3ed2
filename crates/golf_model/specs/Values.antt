-- Values: their references, their contents, their equality, and how they print.
use Rattle.std.specs.Prelude.{ℕ, Bool, true, false, List, [], ◌∷◌, ◌++◌, Option, Some, None, ◌==◌, slice_get, ℤ, pos}
use Rattle.std.specs.Prelude.{negsuc}
use Rattle.std.specs.Fmt.{signed_decimal}
use Rattle.golf_data.specs.declared.value.Value.{Value}

-- the reference to the object of this number
abbrev pub reference : ℕ → Value
reference o = Value.Ref (record { 0 = o })

-- the objects that a value refers to
abbrev pub value_refs : Value → List ℕ
value_refs (Value.Int n) = []
value_refs (Value.Bool b) = []
value_refs (Value.Text k) = []
value_refs Value.Unit = []
value_refs Value.Nil = []
value_refs (Value.Ref o) = o.0 ∷ []

-- the objects that the values refer to
abbrev pub refs : List Value → List ℕ
refs [] = []
refs (v ∷ vs) = value_refs v ++ refs vs

-- the value, except that a reference is read as nil: no zero value is a reference
abbrev pub zero_of : Value → Value
zero_of (Value.Int n) = Value.Int n
zero_of (Value.Bool b) = Value.Bool b
zero_of (Value.Text k) = Value.Text k
zero_of Value.Unit = Value.Unit
zero_of Value.Nil = Value.Nil
zero_of (Value.Ref o) = Value.Nil

-- the zero values of globals or fields
abbrev pub zeros_of : List Value → List Value
zeros_of [] = []
zeros_of (v ∷ vs) = zero_of v ∷ zeros_of vs

-- the integer of a value; none for another kind
abbrev pub int_of : Value → Option ℤ
int_of (Value.Int n) = Some n
int_of (Value.Bool b) = None
int_of (Value.Text k) = None
int_of Value.Unit = None
int_of Value.Nil = None
int_of (Value.Ref o) = None

-- the truth value of a value; none for another kind
abbrev pub bool_of : Value → Option Bool
bool_of (Value.Int n) = None
bool_of (Value.Bool b) = Some b
bool_of (Value.Text k) = None
bool_of Value.Unit = None
bool_of Value.Nil = None
bool_of (Value.Ref o) = None

-- the text of a value, by its place in the code's table; none for another kind
abbrev pub text_of : Value → Option ℕ
text_of (Value.Int n) = None
text_of (Value.Bool b) = None
text_of (Value.Text k) = Some k
text_of Value.Unit = None
text_of Value.Nil = None
text_of (Value.Ref o) = None

-- whether two integers are equal
abbrev pub same_int : ℤ → ℤ → Bool
same_int (pos m) (pos n) = m == n
same_int (pos m) (negsuc n) = false
same_int (negsuc m) (pos n) = false
same_int (negsuc m) (negsuc n) = m == n

abbrev pub same_bool : Bool → Bool → Bool
same_bool true b = b
same_bool false true = false
same_bool false false = true

-- values are compared with values of their own kind only; nil and references are of one kind
abbrev pub equals_int : ℤ → Value → Option Bool
equals_int n (Value.Int m) = Some (same_int n m)
equals_int n (Value.Bool b) = None
equals_int n (Value.Text k) = None
equals_int n Value.Unit = None
equals_int n Value.Nil = None
equals_int n (Value.Ref o) = None

abbrev pub equals_bool : Bool → Value → Option Bool
equals_bool b (Value.Int n) = None
equals_bool b (Value.Bool c) = Some (same_bool b c)
equals_bool b (Value.Text k) = None
equals_bool b Value.Unit = None
equals_bool b Value.Nil = None
equals_bool b (Value.Ref o) = None

abbrev pub equals_text : ℕ → Value → Option Bool
equals_text k (Value.Int n) = None
equals_text k (Value.Bool b) = None
equals_text k (Value.Text j) = Some (k == j)
equals_text k Value.Unit = None
equals_text k Value.Nil = None
equals_text k (Value.Ref o) = None

abbrev pub equals_unit : Value → Option Bool
equals_unit (Value.Int n) = None
equals_unit (Value.Bool b) = None
equals_unit (Value.Text k) = None
equals_unit Value.Unit = Some true
equals_unit Value.Nil = None
equals_unit (Value.Ref o) = None

abbrev pub equals_nil : Value → Option Bool
equals_nil (Value.Int n) = None
equals_nil (Value.Bool b) = None
equals_nil (Value.Text k) = None
equals_nil Value.Unit = None
equals_nil Value.Nil = Some true
equals_nil (Value.Ref o) = Some false

abbrev pub equals_reference : ℕ → Value → Option Bool
equals_reference o (Value.Int n) = None
equals_reference o (Value.Bool b) = None
equals_reference o (Value.Text k) = None
equals_reference o Value.Unit = None
equals_reference o Value.Nil = Some false
equals_reference o (Value.Ref p) = Some (o == p.0)

-- `==` of two values of one kind; texts are compared by their places in the table, which has each text once (Go
-- specification, "Comparison operators")
abbrev pub equality : Value → Value → Option Bool
equality (Value.Int n) v = equals_int n v
equality (Value.Bool b) v = equals_bool b v
equality (Value.Text k) v = equals_text k v
equality Value.Unit v = equals_unit v
equality Value.Nil v = equals_nil v
equality (Value.Ref o) v = equals_reference o.0 v

-- `true` and `false`
abbrev pub bool_bytes : Bool → List ℕ
bool_bytes true = 116 ∷ 114 ∷ 117 ∷ 101 ∷ []
bool_bytes false = 102 ∷ 97 ∷ 108 ∷ 115 ∷ 101 ∷ []

-- an operand of `Println`: an integer in decimal, a truth value, or a text of the table as it is
abbrev pub bytes_of : List (List ℕ) → Value → Option (List ℕ)
bytes_of texts (Value.Int n) = Some (signed_decimal n)
bytes_of texts (Value.Bool b) = Some (bool_bytes b)
bytes_of texts (Value.Text k) = slice_get texts k
bytes_of texts Value.Unit = None
bytes_of texts Value.Nil = None
bytes_of texts (Value.Ref o) = None

-- the first piece followed by the second, if both exist
abbrev pub before : Option (List ℕ) → Option (List ℕ) → Option (List ℕ)
before None rest = None
before (Some xs) None = None
before (Some xs) (Some ys) = Some (xs ++ ys)

-- each operand with a space before it, and then a newline
abbrev pub spaced_bytes : List (List ℕ) → List Value → Option (List ℕ)
spaced_bytes texts [] = Some (10 ∷ [])
spaced_bytes texts (v ∷ vs) = before (Some (32 ∷ [])) (before (bytes_of texts v) (spaced_bytes texts vs))

-- a printed line: the operands with one space between them, and a newline (package fmt, `Println`)
abbrev pub line_bytes : List (List ℕ) → List Value → Option (List ℕ)
line_bytes texts [] = Some (10 ∷ [])
line_bytes texts (v ∷ vs) = before (bytes_of texts v) (spaced_bytes texts vs)

abbrev pub is_zero : ℤ → Bool
is_zero n = same_int n (pos 0)

abbrev pub is_minus_one : ℤ → Bool
is_minus_one n = same_int n (negsuc 0)
