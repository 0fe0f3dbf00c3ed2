-- The most operands at any place, by one walk over the parts.
use Rattle.std.specs.Prelude.{ℕ, ◌-◌, Bool, true, false, max, List, [], ◌∷◌, Option, Some, None}
use Rattle.std.specs.Option.{option_map}
use Rattle.golf_data.specs.declared.code.SelectCase.{SelectCase}
use Rattle.golf_data.specs.Effects.{case_left, cases_taken}
use Rattle.golf_code_layout.specs.Depth.{OperandDepth, height, met, reached, innermost, outer, behind, above, chosen}
use Rattle.golf_code_layout.specs.Depth.{defaulted}
use Rattle.golf_code_layout.specs.declared.emitted.Emitted.{Emitted}
use Rattle.golf_code_layout.specs.declared.emitted.Emitted.TheVariants as emit
use Rattle.golf_code_targets.specs.declared.heights.Heights.{Heights}
use Rattle.golf_code_targets.specs.Walks.{rest}

-- this number of operands is at the present place
abbrev pub stands : Option ℕ → Heights → Heights
stands after s = record s { most = max s.most (height after); here = after }

-- a jump to a target with this number of operands
abbrev pub leads : ℕ → Option ℕ → Heights → Heights
leads k h s = record s { targets = reached s.targets k h }

abbrev pub takes_in : Heights → OperandDepth → Heights
takes_in s f = record s { most = max s.most f.most; here = f.behind; targets = f.targets }

-- the operands after the end of a block; jumps to its end count if that is its target
abbrev pub end_height : List Bool → Option ℕ → List (Option ℕ) → Option ℕ
end_height (true ∷ kinds) h targets = met h (innermost targets)
end_height _ h targets = h

-- The same, case by case.

abbrev pub case_chosen : Option ℕ → SelectCase → Heights → Heights
case_chosen below c s = let after = above below
    (case_left c.kind) in record s { most = max s.most (height after); targets = reached s.targets c.target after }

abbrev pub cases_chosen : Option ℕ → List SelectCase → Heights → Heights
cases_chosen below [] s = s
cases_chosen below (c ∷ cs) s = cases_chosen below cs (case_chosen below c s)

abbrev pub default_chosen : Option ℕ → Option ℕ → Heights → Heights
default_chosen below None s = record s { here = None }
default_chosen below (Some k) s = record s { here = None; targets = reached s.targets k below }

abbrev pub choice_flow : List SelectCase → Option ℕ → Heights → OperandDepth
choice_flow cases otherwise s = let below =
    option_map (λ n. n - cases_taken cases) s.here in defaulted below otherwise (chosen below cases s.targets)

abbrev pub height_step : List Bool → Emitted → Heights → Heights
height_step gives (emit.Op i line) s = stands (behind gives i s.here) s
height_step gives (emit.Exit line k) s = record s { here = None; targets = reached s.targets k s.here }
height_step gives (emit.Unless line k) s = let after = option_map (λ n. n - 1) s.here in leads k after (stands after s)
height_step gives (emit.Choose line cases otherwise) s = takes_in s (choice_flow cases otherwise s)
height_step gives emit.Block s = record s { kinds = true ∷ s.kinds; targets = None ∷ s.targets }
height_step gives emit.Again s = record s { kinds = false ∷ s.kinds; targets = s.here ∷ s.targets }
height_step gives emit.End s = record s {
  here = end_height s.kinds s.here s.targets;
  kinds = rest s.kinds;
  targets = outer s.targets;
}

abbrev pub height_steps : List Bool → List Emitted → Heights → Heights
height_steps gives [] s = s
height_steps gives (m ∷ ms) s = height_steps gives ms (height_step gives m s)

abbrev pub no_heights : Heights
no_heights = record { most = 0; here = Some 0; kinds = []; targets = [] }

abbrev pub most_of : List Bool → List Emitted → ℕ
most_of gives ms = (height_steps gives ms no_heights).most
