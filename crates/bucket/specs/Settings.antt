-- The model's settings that Settings stands for, and how they are stored.
use Rattle.std.specs.Prelude.{eqb}
use Rattle.model.specs.Bucket.{BucketSettings}
use Rattle.model.specs.Layout.{flag_byte}
use Rattle.bucket.specs.declared.settings.Settings.{Settings}

abbrev pub settings_of : Settings → BucketSettings
settings_of s = record { pending_timeout = s.pending_timeout; max_incoming = s.max_incoming; filter = eqb s.filter 1 }

abbrev pub stored_settings : BucketSettings → Settings
stored_settings s = record { pending_timeout = s.pending_timeout; max_incoming = s.max_incoming; filter = flag_byte s.filter }
