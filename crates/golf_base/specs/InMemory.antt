-- A source and a sink over memory: how many bytes a call gives or takes, and which calls fail.
use Rattle.std.specs.Prelude.{◌≡◌, ℕ, ◌+◌, ◌-◌, ◌^◌, ◌<◌, ◌⊎◌, min, List, ◌++◌, length, take, drop, refl, Contains}
use Rattle.std.specs.Coded.{Coded, code_by, coded×, coded_ℕ, coded_list}
use Rattle.golf_base.specs.Causes.{next_fault}

-- a source: the bytes left, the most bytes a call, the calls that fail, the number of calls, the number of faults
pub record Supply : Type 0 where
  pub left : List ℕ
  pub most : ℕ
  pub fail : List ℕ
  pub calls : ℕ
  pub faults : ℕ

-- a sink: the bytes written, the room in all, the most bytes a call, the calls that fail, the number of calls, the
-- number of faults
pub record Store : Type 0 where
  pub written : List ℕ
  pub room : ℕ
  pub most : ℕ
  pub fail : List ℕ
  pub calls : ℕ
  pub faults : ℕ

abbrev pub supply_code : Coded Supply
supply_code = code_by (List ℕ × (ℕ × (List ℕ × (ℕ × ℕ))))
    (coded× (coded_list coded_ℕ) (coded× coded_ℕ (coded× (coded_list coded_ℕ) (coded× coded_ℕ coded_ℕ))))
    (λ s. (s.left, (s.most, (s.fail, (s.calls, s.faults)))))
    (λ p. record { left = p.0; most = p.1.0; fail = p.1.1.0; calls = p.1.1.1.0; faults = p.1.1.1.1 }) (λ _. refl)

abbrev pub store_code : Coded Store
store_code = code_by (List ℕ × (ℕ × (ℕ × (List ℕ × (ℕ × ℕ)))))
    (coded× (coded_list coded_ℕ) (coded× coded_ℕ
    (coded× coded_ℕ (coded× (coded_list coded_ℕ) (coded× coded_ℕ coded_ℕ)))))
    (λ s. (s.written, (s.room, (s.most, (s.fail, (s.calls, s.faults))))))
    (λ p. record {
      written = p.0;
      room = p.1.0;
      most = p.1.1.0;
      fail = p.1.1.1.0;
      calls = p.1.1.1.1.0;
      faults = p.1.1.1.1.1;
    }) (λ _. refl)

-- one more call; the last value of the type stays as it is
abbrev pub next_call : ℕ → ℕ
next_call calls = min (calls + 1) (2 ^ 32 - 1)

-- how many bytes a call gives into this much room
abbrev pub given : Supply → ℕ → ℕ
given s room = min (min (length s.left) room) s.most

abbrev pub after_read : Supply → ℕ → Supply
after_read s room = record s { left = drop (given s room) s.left; calls = next_call s.calls }

abbrev pub after_failed_read : Supply → Supply
after_failed_read s = record s { calls = next_call s.calls; faults = next_fault s.faults }

-- how many bytes of a piece of this length a call takes
abbrev pub taken : Store → ℕ → ℕ
taken s len = min (min len (s.room - length s.written)) s.most

-- the call fails: its number is among those that fail, or there is no room for a piece that is not empty
abbrev pub CallFails : Store → ℕ → Type 0
CallFails s len = Contains s.fail (next_call s.calls) ⊎ ((taken s len ≡ 0) × (0 < len))

abbrev pub after_write : Store → List ℕ → Store
after_write s piece = record s { written = s.written ++ take (taken s (length piece)) piece; calls = next_call s.calls }

abbrev pub after_failed_write : Store → Store
after_failed_write s = record s { calls = next_call s.calls; faults = next_fault s.faults }
