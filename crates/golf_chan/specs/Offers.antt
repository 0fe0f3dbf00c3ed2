-- The cases of a `select` with their operands, as they are in memory.
use Rattle.std.specs.Prelude.{◌≡◌, ℕ, List, ◌∷◌, map, drop, Option, Some, None}
use Rattle.golf_base.specs.declared.ids.ObjectId.{ObjectId}
use Rattle.golf_data.specs.declared.value.Value.{Value}
use Rattle.golf_data.specs.declared.code.SelectCase.{SelectCase}
use Rattle.golf_data.specs.declared.code.CaseKind.{CaseKind}
use Rattle.golf_model.specs.Selects.{Offer as Offering, take_case, offers_of}
use Rattle.golf_chan.specs.declared.offers.Offer.{Offer}
use Rattle.golf_chan.specs.declared.offers.Offered.{Offered}

abbrev pub plain_offer : Offer → Offering
plain_offer x = record { kind = x.kind; channel = x.channel; value = x.value; target = x.target }

abbrev pub plain_offers : List Offer → List Offering
plain_offers xs = map plain_offer xs

-- how many operands a case has
abbrev pub width_of : CaseKind → ℕ
width_of CaseKind.Send = 2
width_of CaseKind.Take = 1
width_of CaseKind.TakeOk = 1

-- the case takes its operands from these, the top one first; `None` if there are too few
abbrev pub IsOfferOf : SelectCase → List Value → Option Offer → Type 0
IsOfferOf k vs None = (os : List Offering) → take_case k k.kind (os, vs) ≡ None
IsOfferOf k vs (Some x) = (os : List Offering)
    → take_case k k.kind (os, vs) ≡ Some (plain_offer x ∷ os, drop (width_of k.kind) vs)

-- all cases take their operands from these; `None` if there are too few
abbrev pub AreOffersOf : List SelectCase → List Value → Option Offered → Type 0
AreOffersOf ks vs None = offers_of ks vs ≡ None
AreOffersOf ks vs (Some x) = offers_of ks vs ≡ Some (plain_offers x.offers, drop x.taken vs)

abbrev pub object_of : Value → Option ObjectId
object_of (Value.Int n) = None
object_of (Value.Bool b) = None
object_of (Value.Text k) = None
object_of Value.Unit = None
object_of Value.Nil = None
object_of (Value.Ref o) = Some o
