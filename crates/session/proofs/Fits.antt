-- What question 10 says of a call's date.
use mathlib.Core.Path.{◌≡◌}
use mathlib.Core.Bool.{true, ◌&&◌}
use lib.Dec.{ltb}
use Rattle.model.specs.Base.{every}
use Rattle.model.specs.Session.{Session, windows_of, dates_of, is_date, max_windows, max_closed, is_window, are_threes, session_fits}
use Rattle.laws.proofs.Tests.{and_left, and_right}

pub fits-date : (x : Session) → session_fits x ≡ true → is_date x.today ≡ true
unfolding session_fits
fits-date x e =
    and_left (is_date x.today) (ltb x.minute 1440)
    (and_right (are_threes max_closed x.closed && every is_date (dates_of x.closed)) (is_date x.today && ltb x.minute 1440)
    (and_right (are_threes max_windows x.windows && every is_window (windows_of x.windows)) _ e))
