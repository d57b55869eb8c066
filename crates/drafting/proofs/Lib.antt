pub mod ByteLaws
pub mod CallLaws
pub mod Filling
pub mod NumeralLaws
pub mod PlaceLaws
pub mod RoomLaws
