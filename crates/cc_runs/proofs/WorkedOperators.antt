-- What operators give, by computation.
use Rattle.std.proofs.Common.{refl}
use Rattle.std.specs.Int.{int_wrap}
use Rattle.cc_runs.specs.ExampleOperators.{SumsWrap, DifferencesWrap, ProductsWrap, ComparisonsTell, EqualityTells}

pub sums_wrap : SumsWrap
unfolding int_wrap
sums_wrap = (refl, refl, refl, refl)

pub differences_wrap : DifferencesWrap
unfolding int_wrap
differences_wrap = (refl, refl, refl, refl)

pub products_wrap : ProductsWrap
unfolding int_wrap
products_wrap = (refl, refl, refl, refl, refl, refl)

pub comparisons_tell : ComparisonsTell
comparisons_tell = (refl, refl, refl, refl, refl, refl, refl, refl)

pub equality_tells : EqualityTells
equality_tells = (refl, refl, refl, refl, refl, refl)
