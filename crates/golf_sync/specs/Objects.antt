-- Objects of package sync among the objects.
use Rattle.std.specs.Prelude.{Bool, ℤ, Option, Some, None}
use Rattle.golf_data.specs.declared.value.Value.{Value}
use Rattle.golf_data.specs.declared.value.Object.{Object}

-- whether the mutex is locked, if the object is a mutex
abbrev pub mutex_of : Option Object → Option Bool
mutex_of None = None
mutex_of (Some (Object.Struct fields)) = None
mutex_of (Some (Object.Slice elements)) = None
mutex_of (Some (Object.Chan c)) = None
mutex_of (Some (Object.Mutex locked)) = Some locked
mutex_of (Some (Object.Group n)) = None
mutex_of (Some (Object.Rw n)) = None
mutex_of (Some (Object.Cond v)) = None

-- the counter of the wait group, if the object is one
abbrev pub group_of : Option Object → Option ℤ
group_of None = None
group_of (Some (Object.Struct fields)) = None
group_of (Some (Object.Slice elements)) = None
group_of (Some (Object.Chan c)) = None
group_of (Some (Object.Mutex locked)) = None
group_of (Some (Object.Group n)) = Some n
group_of (Some (Object.Rw n)) = None
group_of (Some (Object.Cond v)) = None

-- the count of the reader and writer mutex, if the object is one
abbrev pub rw_of : Option Object → Option ℤ
rw_of None = None
rw_of (Some (Object.Struct fields)) = None
rw_of (Some (Object.Slice elements)) = None
rw_of (Some (Object.Chan c)) = None
rw_of (Some (Object.Mutex locked)) = None
rw_of (Some (Object.Group n)) = None
rw_of (Some (Object.Rw n)) = Some n
rw_of (Some (Object.Cond v)) = None

-- the mutex of the condition, if the object is one
abbrev pub condition_of : Option Object → Option Value
condition_of None = None
condition_of (Some (Object.Struct fields)) = None
condition_of (Some (Object.Slice elements)) = None
condition_of (Some (Object.Chan c)) = None
condition_of (Some (Object.Mutex locked)) = None
condition_of (Some (Object.Group n)) = None
condition_of (Some (Object.Rw n)) = None
condition_of (Some (Object.Cond v)) = Some v
