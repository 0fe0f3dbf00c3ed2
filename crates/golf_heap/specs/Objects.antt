-- The model of a heap: objects under numbers that are given in order and never used again (profile).
use Rattle.std.specs.Prelude.{ℕ, ◌+◌, List}
use Rattle.golf_theory.specs.Maps.{put, add, Rises, AllBelow}
use Rattle.golf_data.specs.declared.value.Object.{Object}

-- the objects that are there, in rising order of number, and the last number that was given, 0 if none was
pub record NumberedObjects : Type 0 where
  pub objects : List (ℕ × Object)
  pub last : ℕ

-- the numbers rise, from 1 up to the last one that was given
pub record IsNumbered (h : NumberedObjects) : Type 0 where
  pub rises : Rises 1 h.objects
  pub within : AllBelow (h.last + 1) h.objects

-- the object gets this number, which is above the last one
abbrev pub appended : ℕ → Object → NumberedObjects → NumberedObjects
appended n x h = record { objects = add n x h.objects; last = n }

-- the object gets the next number
abbrev pub made : Object → NumberedObjects → NumberedObjects
made x h = record { objects = add (h.last + 1) x h.objects; last = h.last + 1 }

-- this object replaces the one of this number
abbrev pub replaced : ℕ → Object → NumberedObjects → NumberedObjects
replaced o x h = record h { objects = put o x h.objects }
