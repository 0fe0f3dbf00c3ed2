-- Channels among the objects, and their buffers.
use Rattle.std.specs.Prelude.{◌≡◌, true, cond, List, [], ◌∷◌, ◌++◌, Option, Some, None}
use Rattle.golf_data.specs.declared.value.Value.{Value}
use Rattle.golf_data.specs.declared.value.Object.{Object}
use Rattle.golf_data.specs.declared.value.Channel.{Channel}

-- the object as a channel, if it is one
abbrev pub channel_of : Option Object → Option Channel
channel_of None = None
channel_of (Some (Object.Struct fields)) = None
channel_of (Some (Object.Slice elements)) = None
channel_of (Some (Object.Chan c)) = Some c
channel_of (Some (Object.Mutex locked)) = None
channel_of (Some (Object.Group n)) = None
channel_of (Some (Object.Rw n)) = None
channel_of (Some (Object.Cond v)) = None

-- the channel with one more value in its buffer
abbrev pub buffered : Value → Object → Object
buffered v (Object.Struct fields) = Object.Struct fields
buffered v (Object.Slice elements) = Object.Slice elements
buffered v (Object.Chan c) = Object.Chan (record c { buffer = c.buffer ++ v ∷ [] })
buffered v (Object.Mutex locked) = Object.Mutex locked
buffered v (Object.Group n) = Object.Group n
buffered v (Object.Rw n) = Object.Rw n
buffered v (Object.Cond x) = Object.Cond x

-- the list without its first value, and with these values at the end; an empty list stays empty
abbrev pub shifted : List Value → List Value → List Value
shifted more [] = []
shifted more (v ∷ vs) = vs ++ more

-- the channel without its first value, and with these values at the end of its buffer
abbrev pub unbuffered : List Value → Object → Object
unbuffered more (Object.Struct fields) = Object.Struct fields
unbuffered more (Object.Slice elements) = Object.Slice elements
unbuffered more (Object.Chan c) = Object.Chan (record c { buffer = shifted more c.buffer })
unbuffered more (Object.Mutex locked) = Object.Mutex locked
unbuffered more (Object.Group n) = Object.Group n
unbuffered more (Object.Rw n) = Object.Rw n
unbuffered more (Object.Cond x) = Object.Cond x

-- a channel with this value first in its buffer
abbrev pub HasFirst : Value → Option Channel → Type 0
HasFirst v None = ⊥
HasFirst v (Some c) = (rest : List Value) × (c.buffer ≡ v ∷ rest)

-- a channel with an empty buffer; `zero` is the value that it gives if it is closed
abbrev pub IsEmptyWith : Option Value → Option Channel → Type 0
IsEmptyWith zero None = ⊥
IsEmptyWith zero (Some c) = (c.buffer ≡ []) × (zero ≡ cond c.closed (Some c.zero) None)

-- the closed channel
abbrev pub closed_in : Object → Object
closed_in (Object.Struct fields) = Object.Struct fields
closed_in (Object.Slice elements) = Object.Slice elements
closed_in (Object.Chan c) = Object.Chan (record c { closed = true })
closed_in (Object.Mutex locked) = Object.Mutex locked
closed_in (Object.Group n) = Object.Group n
closed_in (Object.Rw n) = Object.Rw n
closed_in (Object.Cond x) = Object.Cond x
