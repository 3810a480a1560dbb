-- What was tried is a name, and each try stands behind those before it.
use Rattle.std.specs.Str.{chars}
use Rattle.cc_wanted.proofs.NameSamples.{are_names, names_tell}
use Rattle.cc_wanted.proofs.trying.goes_on_with_name.Goals as goal

pub or_with_name-requires-clause-name : goal.or_with_name-requires-clause-name
or_with_name-requires-clause-name c = are_names.other

pub or_with_name-requires-2-clause-name : goal.or_with_name-requires-2-clause-name
or_with_name-requires-2-clause-name c = are_names.print

pub or_with_name-requires-3-clause-name : goal.or_with_name-requires-3-clause-name
or_with_name-requires-3-clause-name c = are_names.say

pub or_with_name-requires-4-clause-name : goal.or_with_name-requires-4-clause-name
or_with_name-requires-4-clause-name c = are_names.read

pub or_with_name-requires-5-clause-name : goal.or_with_name-requires-5-clause-name
or_with_name-requires-5-clause-name c = are_names.write

pub or_with_name-requires-6-clause-name : goal.or_with_name-requires-6-clause-name
or_with_name-requires-6-clause-name c = are_names.tick

pub returns : goal.returns
unfolding chars
returns c =
    names_tell c.in_ok-yes.ensures c.in_ok-yes-2.ensures c.in_ok-yes-3.ensures c.in_ok-yes-4.ensures c.in_ok-yes-5.ensures c.in_ok-yes-6.ensures
