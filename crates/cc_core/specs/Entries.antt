-- The entries of a context as they are linked: each with those before it, and with a link that passes over some of them
-- (Myers, An applicative random-access stack, Information Processing Letters 17, 1983).
use Rattle.std.specs.Prelude.{◌≡◌, List, [], ◌∷◌, drop}
use Rattle.cc_core.specs.declared.context.Bind.{Bind}
use Rattle.cc_core.specs.declared.context.Link.{Link}
use Rattle.cc_core.specs.declared.context.Link.TheVariants.{End, More'}

-- the entries that a link leads to, the newest first
abbrev pub entries : Link → List Bind
entries End = []
entries (More' pointer bind passed rest far) = bind ∷ entries rest

-- the far link of each entry passes over so many entries, this one among them
abbrev pub AreLinked : Link → Type 0
AreLinked End = Unit {0}
AreLinked (More' pointer bind passed rest far) =
    (entries far ≡ drop passed (bind ∷ entries rest)) × AreLinked rest × AreLinked far
