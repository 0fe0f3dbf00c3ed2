-- What is in the buffer of a channel.
-- For: `receive_buffered` and `receive_unbuffered`, src/receives.rt
-- By: cases of the object; no induction
use Rattle.std.proofs.Common.{◌≡◌, List, [], ◌∷◌, Option, Some, refl}
use Rattle.golf_data.specs.declared.value.Value.{Value}
use Rattle.golf_data.specs.declared.value.Object.{Object}
use Rattle.golf_data.specs.declared.value.Channel.{Channel}
use Rattle.golf_chan.specs.Channels.{channel_of, HasFirst, IsEmptyWith}

pub empty-channel : (zero : Option Value) (m : Option Object) → IsEmptyWith zero (channel_of m) → (c : Channel)
    × (m ≡ Some (Object.Chan c)) × (c.buffer ≡ [])
empty-channel zero (Some (Object.Chan c)) h = (c, refl, h.0)
empty-channel zero _ h = absurd h

pub full-channel : (v : Value) (m : Option Object) → HasFirst v (channel_of m) → (c : Channel) × (rest : List Value)
    × (m ≡ Some (Object.Chan c)) × (c.buffer ≡ v ∷ rest)
full-channel v (Some (Object.Chan c)) h = (c, h.0, refl, h.1)
full-channel v _ h = absurd h
