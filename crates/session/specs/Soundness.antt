-- Sound records. From document 01, "Session steps".
use Rattle.std.specs.Prelude.{Bool, eqb}
use Rattle.basics.specs.Logic.{◌and◌, all}
use Rattle.field.specs.Field.{is_field, is_element}
use Rattle.pattern.specs.Pattern.{sound_places}
use Rattle.tag.specs.TagString.{is_form}
use Rattle.counters.specs.Permutations.{permutations_at}
use Rattle.counters.specs.Positions.{positions_at}
use Rattle.progress.specs.Place.{sound_place}
use Rattle.session.specs.Record.{field_in}
use Rattle.session.specs.declared.Session.{Session}

-- "An open record is sound if its words are 2 to 64, even in number", which document 02, P6, has as 1 to 64, "alternate from ABSORB, have lengths of
-- at least 1, and unused words are 0; the phase number is at most the word count; elements done are below the phase's length, or 0 after the last
-- phase; all state elements are below p; and count and positions are those the steps give at that place."; "A record with another field number isn't
-- sound."; of the form number: "a record with another isn't sound"
unfoldable pub sound : Session → Bool
sound r =
    is_field r.field
    and is_form r.form
    and sound_places r.words r.count
    and sound_place r.words r.count r.phase r.done
    and all (is_element (field_in r)) r.state
    and eqb r.permutations (permutations_at r.words r.phase r.done)
    and eqb r.absorb_position (positions_at r.words r.phase r.done).absorb
    and eqb r.squeeze_position (positions_at r.words r.phase r.done).squeeze
