use Rattle.cc_runs.proofs.DeviceTable.{devices_answer_what_suits, moves_touch_one_device, moves_keep_the_devices}
use Rattle.cc_runs.proofs.runs.devices_are_kept.Goals as goal

pub returns : goal.returns
returns c =
    record {
      answers = devices_answer_what_suits;
      touched = moves_touch_one_device;
      kept = moves_keep_the_devices;
    }
