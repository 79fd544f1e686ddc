-- What contracts see of a file that was opened.
use Rattle.lex_base.specs.declared.device.Device.{Device}
use Rattle.command_line.specs.declared.files.OpenedFile.{OpenedFile}

abbrev pub device_of : {T : Type 0} → OpenedFile T → Device T
device_of file = file.device
