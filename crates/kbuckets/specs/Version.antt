-- The version of the library, 0.7.0; include/kbuckets.h and host/Cargo.toml say the same.
use Rattle.std.specs.Prelude.{ℕ, ◌+◌, ◌*◌}

-- major, minor and patch, a byte each
abbrev pub version : ℕ
version = 0 * 65536 + 7 * 256 + 0
