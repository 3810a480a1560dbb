-- What a link leads to.
use Rattle.std.specs.Prelude.{ℕ, ◌+◌, nat_eq, Bool, true, false}
use Rattle.cc_explain.specs.declared.target.Target.{Target}
use Rattle.cc_explain.specs.declared.target.Target.TheVariants.{Definition, Device, Cap}

-- what a set may have as an element: a device or the universal capability
abbrev pub IsElement : Target → Type 0
IsElement (Definition number) = ⊥
IsElement (Device number) = Unit {0}
IsElement Cap = Unit {0}

-- whether a target is the definition of a number, the device of a number, the universal capability
abbrev pub is_definition : ℕ → Target → Bool
is_definition number (Definition other) = nat_eq number other
is_definition number (Device other) = false
is_definition number Cap = false

abbrev pub is_device : ℕ → Target → Bool
is_device number (Definition other) = false
is_device number (Device other) = nat_eq number other
is_device number Cap = false

abbrev pub is_cap : Target → Bool
is_cap (Definition other) = false
is_cap (Device other) = false
is_cap Cap = true

-- whether two targets are the same
abbrev pub same_target : Target → Target → Bool
same_target (Definition number) other = is_definition number other
same_target (Device number) other = is_device number other
same_target Cap other = is_cap other

-- how many entries there are up to that of a definition; an element of a set has none
abbrev pub rank : Target → ℕ
rank (Definition number) = number + 1
rank (Device number) = 0
rank Cap = 0
