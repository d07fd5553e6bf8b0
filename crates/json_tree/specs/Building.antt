-- What a builder stands for. Not part of any promise: only private functions cite it.
use Rattle.std.specs.Prelude.{List, map, reverse, option_map, ◌<◌, ◌^◌, ◌+◌, length}
use Rattle.json_grammar.specs.Trees.{tree_view, trees_view, members_view}
use Rattle.json_grammar.specs.laws.Builder.{Open, open_list, open_object, open_member, Built, bt}
use Rattle.json_tree.specs.declared.builder.Level.{Level}
use Rattle.json_tree.specs.declared.builder.Level.TheVariants.{List as Listed, Object, Pair}
use Rattle.json_machine.specs.declared.raw_event.RawEvent.{RawEvent}
use Rattle.json_machine.specs.declared.raw_event.RawEvent.TheVariants.{Begin, Finish, Key, Null, Bool as Boolean, Num}
use Rattle.json_machine.specs.declared.raw_event.RawEvent.TheVariants.{Text}
use Rattle.json_tree.specs.declared.builder.Builder.{Builder}

-- the offsets after it are numbers of 64 bits
abbrev pub HasRoom : RawEvent → Type 0
HasRoom (Begin at o) = Unit {0}
HasRoom (Finish at) = at + 1 < 2 ^ 64
HasRoom (Key at end x) = Unit {0}
HasRoom (Null at) = at + 5 < 2 ^ 64
HasRoom (Boolean at b) = at + 5 < 2 ^ 64
HasRoom (Num at x) = at + length x.items < 2 ^ 64
HasRoom (Text at end x) = Unit {0}

abbrev pub level_of : Level → Open
level_of (Listed at ts) = open_list at (trees_view ts.items)
level_of (Object at ms) = open_object at (members_view ms.items)
level_of (Pair at ms key_at key_end key) = open_member at (members_view ms.items) key_at key_end key

abbrev pub levels_of : List Level → List Open
levels_of xs = reverse (map level_of xs)

abbrev pub built_of : Builder → Built
built_of b = bt (levels_of b.levels.items) (option_map tree_view b.done)
