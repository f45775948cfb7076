pub mod Docks
pub mod Docked
pub mod DockSets
pub mod Views
pub mod Types
pub mod Stations
pub mod StationRows
pub mod StationVerdicts
