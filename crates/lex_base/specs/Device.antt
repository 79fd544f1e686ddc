-- What contracts see of a `Device`.
use Rattle.std.specs.Prelude.{ℕ, Bool}
use Rattle.lex_base.specs.declared.device.Device.{Device}

-- the reader or writer of std's
abbrev pub inner_of : {T : Type 0} → Device T → T
inner_of d = d.inner

-- it refused a call
abbrev pub is_failed : {T : Type 0} → Device T → Bool
is_failed d = d.failed

-- a flush that was not refused came after its last write
abbrev pub is_flushed : {T : Type 0} → Device T → Bool
is_flushed d = d.flushed

-- how many bytes it gave, as a reader
abbrev pub count_of : {T : Type 0} → Device T → ℕ
count_of d = d.given
