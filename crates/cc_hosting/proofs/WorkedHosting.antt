-- Worked runs on the devices of a host, by computation.
use Rattle.std.proofs.Common.{refl}
use Rattle.std.specs.Fmt.{digits}
use Rattle.std.specs.Int.{int_wrap}
use lib.Utf8.{encode}
use Rattle.cc_capture.specs.Sets.{contains}
use Rattle.cc_capture.specs.Variables.{same_variable}
use Rattle.cc_hosting.specs.HostedExamples as example
use Rattle.cc_words.specs.Words.{number_of, signed_of}

pub rules_bind_each_module : example.RulesBindEachModule
unfolding encode digits same_variable contains
rules_bind_each_module = record {
  no_rule = refl;
  not_the_definition = refl;
  not_the_other = refl;
  denied_to_the_other = refl;
}

pub permitted_runs_are_told : example.PermittedRunsAreTold
unfolding encode digits int_wrap signed_of number_of same_variable contains
permitted_runs_are_told = record {
  answered = refl;
  waiting = refl;
  stopped = refl;
  broken = refl;
  unused = refl;
}
