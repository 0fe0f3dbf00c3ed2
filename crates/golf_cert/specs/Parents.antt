-- The parent of each place: the smallest place of the level below that justifies it.
use Rattle.std.specs.Prelude.{◌≡◌, ◌+◌, ◌<◌, ◌≤◌, ◌⊎◌, ◌==◌, ◌&&◌, ◌++◌, ℕ, List, [], ◌∷◌, cond, length, slice_index}
use Rattle.std.specs.Prelude.{slice_index_or, slice_set, Option, Some, None, is_none}
use Rattle.golf_theory.specs.Membership.{In}
use Rattle.golf_model.specs.declared.graph.GraphParts.{GraphParts}
use Rattle.golf_model.specs.Graph.{Justifies}
use Rattle.golf_cert.specs.Steps.{place_count}
use Rattle.golf_cert.specs.declared.links.Link.{Link}
use Rattle.golf_cert.specs.Links.{IsJustifiedBy, placed_by}

-- the parent of a place; a place past the last one has none
abbrev pub parent_in : List (Option ℕ) → ℕ → Option ℕ
parent_in parents p = slice_index_or parents p None

-- the first place has a level, and justifies the second one, which is of the next level
pub record IsNextLevel (g : GraphParts) (levels : List ℕ) (from to : ℕ) : Type 0 where
  pub is_levelled : 0 < slice_index levels from
  pub is_next : slice_index levels to ≡ slice_index levels from + 1
  pub justifies : Justifies g from to

-- the smallest place that leads there
pub record IsParent (g : GraphParts) (levels : List ℕ) (parent place : ℕ) : Type 0 where
  pub leads : IsNextLevel g levels parent place
  pub least : (other : ℕ) → IsNextLevel g levels other place → parent ≤ other

-- Each place has its parent, as far as the walk has come. The sources below `bound` are done, and of the source `bound`
-- those places that are `Done`.
pub record HasParentsBelow (g : GraphParts) (levels : List ℕ) (bound : ℕ) (Done : ℕ → Type 0)
    (parents : List (Option ℕ)) : Type 0 where
  pub size : length parents ≡ place_count g
  pub none : (p : ℕ) → parent_in parents p ≡ None → (from : ℕ) → (from < bound) ⊎ ((from ≡ bound) × Done p)
      → IsNextLevel g levels from p → ⊥
  pub some : (p parent : ℕ) → parent_in parents p ≡ Some parent → IsParent g levels parent p

-- each place has its parent, if a place leads to it
pub record HasParents (g : GraphParts) (levels : List ℕ) (parents : List (Option ℕ)) : Type 0 where
  pub size : length parents ≡ place_count g
  pub none : (p : ℕ) → parent_in parents p ≡ None → (from : ℕ) → IsNextLevel g levels from p → ⊥
  pub some : (p parent : ℕ) → parent_in parents p ≡ Some parent → IsParent g levels parent p

-- a place becomes the parent of another one, if that is of the next level and has no parent
abbrev pub adopted : List ℕ → ℕ → ℕ → List (Option ℕ) → List (Option ℕ)
adopted levels parent p parents = cond ((slice_index levels p == slice_index levels parent + 1)
    && is_none (parent_in parents p)) (slice_set parents p (Some parent)) parents

-- a place becomes the parent of these places, one after another
abbrev pub adopted_all : List ℕ → ℕ → List ℕ → List (Option ℕ) → List (Option ℕ)
adopted_all levels parent [] parents = parents
adopted_all levels parent (p ∷ ps) parents = adopted_all levels parent ps (adopted levels parent p parents)

-- the link is justified if all places that lead to the place were placed before it
abbrev pub IsLinkTo : GraphParts → List ℕ → ℕ → Link → Type 0
IsLinkTo g levels place link = (before : List ℕ) → ((from : ℕ) → IsNextLevel g levels from place → In from before)
    → IsJustifiedBy g before link

-- the list gains a link that places the place and is justified so
abbrev pub AddsLink : GraphParts → List ℕ → ℕ → List Link → List Link → Type 0
AddsLink g levels place old new = (link : Link) × (new ≡ old ++ link ∷ []) × (placed_by g link ≡ place)
    × IsLinkTo g levels place link
