-- Where something begins in a text.
use Rattle.merc_base.specs.declared.place.Place.{Place}
use Rattle.merc_base.specs.declared.place.Span.{Span}

-- the place of the first byte of a span
abbrev pub place_of : Span → Place
place_of span = record { byte = span.first; line = span.line }
