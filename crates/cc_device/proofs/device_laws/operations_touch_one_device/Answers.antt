use Rattle.cc_device.proofs.Operations.{devices_keep_their_shape, operated_devices_answer, other_devices_stay, shapes_of_devices_stay, number_of_devices_stays}
use Rattle.cc_device.proofs.device_laws.operations_touch_one_device.Goals as goal

pub returns : goal.returns
returns c =
    record {
      shape = devices_keep_their_shape;
      answers = operated_devices_answer;
      others = other_devices_stay;
      shapes = shapes_of_devices_stay;
      number = number_of_devices_stays;
    }
