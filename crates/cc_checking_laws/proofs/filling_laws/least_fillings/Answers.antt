use Rattle.cc_checking_laws.proofs.LeastFillings.{least_alike, least_over_globals, least_below, least_serves}
use Rattle.cc_checking_laws.proofs.filling_laws.least_fillings.Goals as goal

pub returns : goal.returns
returns c =
    record {
      unique = least_alike;
      over_globals = least_over_globals;
      below = λ globals list least f fit is over serves. least_below globals list fit least f is over serves;
      serves = λ globals list least f fit is over serves. least_serves globals list fit least is f over serves;
    }
